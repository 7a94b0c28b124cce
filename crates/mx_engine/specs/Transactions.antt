-- What a caller is told of a transaction, by what it knows before and afterwards (our own).
use Rattle.std.specs.Prelude.{◌≡◌, ◌⊎◌, ◌<◌, ◌≤◌, ℕ, List, [], ◌∷◌, filter, get_or, length, take, Option, None, Some, IfSome, IsTrue}
use Rattle.mx_dock.specs.Journal.{IsPrefix}
use Rattle.mx_keeper.specs.Places.{PlaceView, place_number, is_at}
use Rattle.mx_keeper.specs.declared.refusals.CallError.{CallError}
use Rattle.mx_keeper.specs.declared.refusals.CallError.TheVariants.{Memory}
use Rattle.mx_pdu.specs.Event.{room_of}
use Rattle.mx_room.specs.Offer.{Offered}
use Rattle.mx_shard.specs.LoneRoom.{to_offer}
use Rattle.mx_shard.specs.Journal.{Entry, record_of, IsLegal}
use Rattle.mx_book.specs.Journal.{hold_of, free, begun, kept, is_legal}
use Rattle.mx_book.specs.declared.transaction_keys.TransactionKey.{TransactionKey}
use Rattle.mx_book.specs.declared.entries.BookEntry.{BookEntry}
use Rattle.mx_book.specs.declared.entries.BookEntry.TheVariants.{Begun, Kept, GivenUp}
use Rattle.mx_world.specs.Replies.{body_of, told_of}
use Rattle.mx_world.specs.declared.answers.Told.{Told}
use Rattle.mx_engine.specs.Views.{BerthView, view_at, after_turn, turned, AddsNothing, AddsNothingThere}
use Rattle.mx_engine.specs.Calls.{entries_added}
use Rattle.mx_engine.specs.declared.faults.Fault.{Fault}
use Rattle.mx_engine.specs.declared.replies.TransactionReply.{TransactionReply}
use Rattle.mx_engine.specs.declared.replies.TransactionReply.TheVariants as reply

-- ---- its events

-- One event was offered: as of any call of a room, what is told of it is what a server says that hosts the room alone.
pub record IsOffered (caller : ℕ) (origin : List ℕ) (o : Offered) (old new : List (BerthView Entry))
    (told : Told) : Type 0 where
  pub journal : List Entry
  pub legal : IsLegal journal
  pub later : IsPrefix (view_at old (place_number (length old) (room_of o.pdu))).seen journal
  pub outcome : told ≡ told_of (record_of journal) origin o
  pub seen : new ≡ turned old (place_number (length old) (room_of o.pdu)) journal
      (entries_added journal caller (room_of o.pdu) (to_offer origin o))

-- each event was offered once, in their order
abbrev pub AreOffered : ℕ → List ℕ → List Offered → List (BerthView Entry) → List (BerthView Entry) → List Told → Type 0
AreOffered caller origin [] old new [] = new ≡ old
AreOffered caller origin (o ∷ os) old new (t ∷ ts) =
    (between : List (BerthView Entry)) × IsOffered caller origin o old between t × AreOffered caller origin os between new ts
AreOffered caller origin [] old new (t ∷ ts) = ⊥
AreOffered caller origin (o ∷ os) old new [] = ⊥

-- the events of the rooms of one shard
abbrev pub events_at : PlaceView → List Offered → List Offered
events_at place events = filter (λ o. is_at place (room_of o.pdu)) events

-- one event was offered, by what is known of its room's shard alone
pub record IsOfferedThere (caller : ℕ) (origin : List ℕ) (o : Offered) (old new : BerthView Entry)
    (told : Told) : Type 0 where
  pub journal : List Entry
  pub legal : IsLegal journal
  pub later : IsPrefix old.seen journal
  pub outcome : told ≡ told_of (record_of journal) origin o
  pub seen : new ≡ after_turn old journal (entries_added journal caller (room_of o.pdu) (to_offer origin o))

-- each event of rooms of one shard was offered once, in their order
abbrev pub AreOfferedThere : ℕ → List ℕ → List Offered → BerthView Entry → BerthView Entry → List Told → Type 0
AreOfferedThere caller origin [] old new [] = new ≡ old
AreOfferedThere caller origin (o ∷ os) old new (t ∷ ts) =
    (between : BerthView Entry) × IsOfferedThere caller origin o old between t
    × AreOfferedThere caller origin os between new ts
AreOfferedThere caller origin [] old new (t ∷ ts) = ⊥
AreOfferedThere caller origin (o ∷ os) old new [] = ⊥

-- ---- its first faults

-- the events before a fault; all of them where there is none
abbrev pub before : Option Fault → List Offered → List Offered
before None events = events
before (Some fault) events = take fault.place events

-- the fault is of an event at its place in the list, and that event's room is of this shard
abbrev pub IsFaultAt : PlaceView → List Offered → Option Fault → Type 0
IsFaultAt at events None = Unit {0}
IsFaultAt at events (Some fault) =
    (o : Offered) × (fault.place < length events) × (o ≡ get_or events fault.place o) × IsTrue (is_at at (room_of o.pdu))

-- A shard was offered the events of its rooms that come before its first fault, all of them where it met none, each once
-- and in their order. Of the others none was kept.
pub record IsStopped (caller : ℕ) (origin : List ℕ) (at : PlaceView) (events : List Offered) (fault : Option Fault)
    (old new : BerthView Entry) : Type 0 where
  pub its : IsFaultAt at events fault
  pub between : BerthView Entry
  pub told : List Told
  pub offered : AreOfferedThere caller origin (events_at at (before fault events)) old between told
  pub nothing : AddsNothingThere between new

-- So it was at each shard: shards go side by side, and each stops at its own first fault. The error is that of the fault at
-- the lowest place.
pub record AreStopped (caller : ℕ) (origin : List ℕ) (events : List Offered) (old new : List (BerthView Entry))
    (error : CallError) : Type 0 where
  pub fault_at : ℕ → Option Fault
  pub long : length new ≡ length old
  pub each : (n : ℕ) → n < length old
      → IsStopped caller origin (record { number = n; count = length old }) events (fault_at n) (view_at old n)
      (view_at new n)
  pub lowest : Fault
  pub its : (n : ℕ) × (n < length old) × (fault_at n ≡ Some lowest)
  pub low : (n : ℕ) → n < length old → IfSome (fault_at n) (λ fault. lowest.place ≤ fault.place)
  pub is : error ≡ lowest.error

-- ---- its book

-- the number of the book of a transaction
abbrev pub book_number : List (BerthView BookEntry) → TransactionKey → ℕ
book_number books p = place_number (length books) p.origin

-- The book was found at this legal journal, which begins with all that the caller had seen.
pub record IsFound (books : List (BerthView BookEntry)) (p : TransactionKey) (journal : List BookEntry) : Type 0 where
  pub legal : IsTrue (is_legal journal)
  pub later : IsPrefix (view_at books (book_number books p)).seen journal

-- The book was found with the transaction free, and it was begun; later the book was found again, with the transaction
-- begun by this caller and not ended, and this entry ended it.
pub record IsBegunAndEnded (caller : ℕ) (p : TransactionKey) (end_ : BookEntry)
    (old new : List (BerthView BookEntry)) : Type 0 where
  pub journal : List BookEntry
  pub found : IsFound old p journal
  pub is_free : hold_of journal p ≡ free
  pub last : List BookEntry
  pub found_again : IsFound (turned old (book_number old p) journal (Begun p caller ∷ [])) p last
  pub is_begun : hold_of last p ≡ begun caller
  pub seen : new ≡ turned (turned old (book_number old p) journal (Begun p caller ∷ [])) (book_number old p) last (end_ ∷ [])

-- ---- the whole

-- The reply: the one that is kept, and no shard is asked; or that it is begun and not ended; or, of what is free, the
-- reply that its events call for, which is kept from then on.
abbrev pub IsReplied : ℕ → TransactionKey → List Offered → (shards : List (BerthView Entry))
    → (books : List (BerthView BookEntry)) → (shards' : List (BerthView Entry)) → (books' : List (BerthView BookEntry))
    → TransactionReply → Type 0
IsReplied caller p events shards books shards' books' (reply.Replayed body) =
    (journal : List BookEntry) × IsFound books p journal × (hold_of journal p ≡ kept body)
    × (books' ≡ turned books (book_number books p) journal []) × (shards' ≡ shards)
IsReplied caller p events shards books shards' books' reply.Busy =
    (journal : List BookEntry) × IsFound books p journal × ((other : ℕ) × (hold_of journal p ≡ begun other))
    × (books' ≡ turned books (book_number books p) journal []) × (shards' ≡ shards)
IsReplied caller p events shards books shards' books' (reply.Closed body) =
    (told : List Told) × AreOffered caller p.origin events shards shards' told
    × (body ≡ body_of told) × IsBegunAndEnded caller p (Kept p caller body) books books'

-- Its events brought no reply: no memory was left to begin with them, and none was offered; or shards stopped at their first
-- faults; or each was offered, and no memory was left for the reply, or it could not be kept.
abbrev pub IsAborted : ℕ → List ℕ → List Offered → (old new : List (BerthView Entry)) → CallError → Type 0
IsAborted caller origin events old new error =
    ((new ≡ old) × (error ≡ Memory))
    ⊎ (AreStopped caller origin events old new error ⊎ ((told : List Told) × AreOffered caller origin events old new told))

-- A refusal: before the transaction was begun, and nothing was added; or it was begun, and then it was given up, and the
-- events that were kept stay.
abbrev pub IsRefused : ℕ → TransactionKey → List Offered → (shards : List (BerthView Entry))
    → (books : List (BerthView BookEntry)) → (shards' : List (BerthView Entry)) → (books' : List (BerthView BookEntry))
    → CallError → Type 0
IsRefused caller p events shards books shards' books' error =
    (AddsNothing books books' × (shards' ≡ shards))
    ⊎ (IsAborted caller p.origin events shards shards' error × IsBegunAndEnded caller p (GivenUp p caller) books books')
