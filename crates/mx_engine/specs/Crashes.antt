-- What a crash leaves of the shards and the books that callers share, and what a server has that is opened again over it
-- (our own).
use Rattle.std.specs.Prelude.{ℕ, ◌≡◌, ◌≢◌, ◌<◌, ◌≤◌, ◌⊎◌, true, false, List, [], ◌∷◌, ◌++◌, length, get_or, Option, Some, None, All}
use mathlib.Core.Option.{some}
use lib.ListN.{get_elem?}
use Rattle.mx_dock.specs.Journal.{IsPrefix}
use Rattle.mx_dock.specs.Rule.{Docked, Each}
use Rattle.mx_dock.specs.declared.views.PassView.{PassView}
use Rattle.mx_graph.specs.Record.{place_of}
use Rattle.mx_receipt.specs.Receipt.{Kept, rows_of, kept_at}
use Rattle.mx_receipt.specs.declared.verdicts.Verdict.{Verdict}
use Rattle.mx_receipt.specs.declared.verdicts.Verdict.TheVariants.{Accepted}
use Rattle.mx_room.specs.Offer.{Offered}
use Rattle.mx_room.specs.declared.joining.JoinReply.TheVariants as join
use Rattle.mx_room.specs.declared.outcomes.Outcome.{Outcome}
use Rattle.mx_room.specs.declared.outcomes.Outcome.TheVariants as outcome
use Rattle.mx_keeper.specs.Places.{place_number}
use Rattle.mx_keeper.specs.declared.rows.ShardRow.{ShardRow}
use Rattle.mx_keeper.specs.declared.rows.BookRow.{BookRow}
use Rattle.mx_shard.specs.Journal.{Entry, AreWorkedOut, record_of, stored as stored_events}
use Rattle.mx_shard.specs.View.{ShardView}
use Rattle.mx_shard.specs.LoneRoom.{Call, to_host, to_offer, to_join, to_ask}
use Rattle.mx_shard.specs.declared.answers.Answer.{Answer}
use Rattle.mx_shard.specs.declared.answers.Answer.TheVariants.{Hosted, ToOffered, ToJoined}
use Rattle.mx_book.specs.Journal.{hold_of, begun, kept, stored as stored_replies}
use Rattle.mx_book.specs.View.{BookView}
use Rattle.mx_book.specs.declared.transaction_keys.TransactionKey.{TransactionKey}
use Rattle.mx_book.specs.declared.entries.BookEntry.{BookEntry}
use Rattle.mx_book.specs.declared.entries.BookEntry.TheVariants as entry
use Rattle.mx_world.specs.Parts.{IsSoundShard, IsSoundBook}
use Rattle.mx_world.specs.Reopening.{IsReopenedShard, IsReopenedBook}
use Rattle.mx_engine.specs.Places.{place_code, book_caller}
use Rattle.mx_engine.specs.Views.{BerthView, view_at}
use Rattle.mx_engine.specs.Transactions.{book_number}
use Rattle.mx_engine.specs.declared.docked.DockedShard.{DockedShard}
use Rattle.mx_engine.specs.declared.docked.DockedBook.{DockedBook}

-- ---- a dock, by the rule that it keeps at every moment

-- what lies in the dock of a shard, and what the dock's passes know: each berth has one
abbrev pub IsShardDock : {K : Type 0} → List (DockedShard K) → List (PassView Entry) → Type 0
IsShardDock lying passes =
    Docked (λ docked. docked.shard.value.journal) (λ entry. entry.caller) (λ docked. place_code docked.shard.value.place)
    lying passes

abbrev pub IsBookDock : {L : Type 0} → List (DockedBook L) → List (PassView BookEntry) → Type 0
IsBookDock lying passes =
    Docked (λ docked. docked.book.value.journal) book_caller (λ docked. place_code docked.book.value.place) lying passes

module _ {E : Type 0} where
  -- so it is of what the owner of each berth has seen, the berths that were given back among them
  abbrev pub AllSeen : (List E → Type 0) → List (PassView E) → Type 0
  AllSeen Fact passes = Each
      (λ _ pass. pass.is_live ≡ true → Fact pass.own.seen × All (λ berth. Fact berth.seen) pass.joined) passes

  -- the value is out with a berth, and had this journal when it was taken
  abbrev pub IsOutWith : List E → List (PassView E) → Type 0
  IsOutWith journal passes =
      (n : ℕ) × (pass : PassView E) × (get_elem? passes n ≡ some pass) × (pass.is_live ≡ true) × (pass.holds ≡ true)
      × (pass.own.seen ≡ journal)

-- The shard lies in its dock.
pub record IsShardInDock {K : Type 0} (shard : ShardView K) (passes : List (PassView Entry)) : Type 0 where
  pub docked : DockedShard K
  pub is : docked.shard.value ≡ shard
  pub dock : IsShardDock (docked ∷ []) passes

-- The shard is out with a caller; so it was when it was taken.
pub record IsShardOut {K : Type 0} (shard : ShardView K) (passes : List (PassView Entry)) : Type 0 where
  pub dock : IsShardDock {K = K} [] passes
  pub out : IsOutWith shard.journal passes

pub record IsBookInDock {L : Type 0} (book : BookView L) (passes : List (PassView BookEntry)) : Type 0 where
  pub docked : DockedBook L
  pub is : docked.book.value ≡ book
  pub dock : IsBookDock (docked ∷ []) passes

pub record IsBookOut {L : Type 0} (book : BookView L) (passes : List (PassView BookEntry)) : Type 0 where
  pub dock : IsBookDock {L = L} [] passes
  pub out : IsOutWith book.journal passes

-- ---- what a crash leaves

-- while the keeper is honest, nothing but these rows
abbrev pub LeavesOnly : {K Row : Type 0} → (K → Type 0) → (K → Option (List Row) → Type 0) → K → List Row → Type 0
LeavesOnly {Row = Row} is_honest may_leave keeper rows = is_honest keeper → (left : Option (List Row))
    → may_leave keeper left → left ≡ Some rows

-- of a shard the rows of its journal; of one that is refused for storage maybe these and the row of one entry that a
-- refused call tried to add
abbrev pub LeavesShard : {K : Type 0} → (K → Type 0) → (K → Option (List ShardRow) → Type 0) → ShardView K → Type 0
LeavesShard is_honest may_leave shard =
    is_honest shard.keeper → (left : Option (List ShardRow)) → may_leave shard.keeper left
    → (left ≡ Some (stored_events shard.journal))
    ⊎ ((shard.is_refused ≡ true) × (tried : Entry) × (left ≡ Some (stored_events (shard.journal ++ tried ∷ []))))

-- of a book so too; no reply was kept of the transaction whose row a refused call tried to add
abbrev pub LeavesBook : {L : Type 0} → (L → Type 0) → (L → Option (List BookRow) → Type 0) → BookView L → Type 0
LeavesBook is_honest may_leave book =
    is_honest book.keeper → (left : Option (List BookRow)) → may_leave book.keeper left
    → (left ≡ Some (stored_replies book.journal))
    ⊎ ((book.is_refused ≡ true) × (tried : BookRow)
    × ((reply : List ℕ) → hold_of book.journal (record { origin = tried.origin; txn = tried.txn }) ≢ kept reply)
    × (left ≡ Some (stored_replies book.journal ++ tried ∷ [])))

-- ---- calls

-- An exit of a call of a shard that would add these entries: a crash leaves what it might have left before the call, or
-- the rows with theirs. Where the shard is refused then, its journal stayed.
pub record IsShardExit {K : Type 0} (is_honest : K → Type 0) (may_leave : K → Option (List ShardRow) → Type 0)
    (entries : List Entry) (old new : ShardView K) : Type 0 where
  pub few : length entries ≤ 1
  pub refused : new.is_refused ≡ true → new.journal ≡ old.journal
  pub honest : is_honest new.keeper → is_honest old.keeper
  pub crash : is_honest new.keeper → (left : Option (List ShardRow)) → may_leave new.keeper left
      → may_leave old.keeper left ⊎ (left ≡ Some (stored_events (old.journal ++ entries)))

-- An exit of a call of a book: a crash leaves what it might have left before the call, or the rows with that of a reply to
-- a transaction that was begun. Where the book is refused then, its journal stayed, or such a transaction was given up.
pub record IsBookExit {L : Type 0} (is_honest : L → Type 0) (may_leave : L → Option (List BookRow) → Type 0)
    (old new : BookView L) : Type 0 where
  pub refused : new.is_refused ≡ true → (new.journal ≡ old.journal)
      ⊎ ((key : TransactionKey) × (caller : ℕ) × (hold_of old.journal key ≡ begun caller)
      × (new.journal ≡ old.journal ++ entry.GivenUp key caller ∷ []))
  pub honest : is_honest new.keeper → is_honest old.keeper
  pub crash : is_honest new.keeper → (left : Option (List BookRow)) → may_leave new.keeper left
      → may_leave old.keeper left
      ⊎ ((key : TransactionKey) × (caller : ℕ) × (reply : List ℕ) × (hold_of old.journal key ≡ begun caller)
      × (left ≡ Some (stored_replies (old.journal ++ entry.Kept key caller reply ∷ []))))

module _ {V : Type 0} where
  -- what a value was after each of some calls, one after the other; what always holds of a value holds of each
  abbrev pub AreExits : (V → Type 0) → (V → V → Type 0) → V → List V → Type 0
  AreExits is_sound IsExit old [] = Unit {0}
  AreExits is_sound IsExit old (new ∷ later) = is_sound new × IsExit old new × AreExits is_sound IsExit new later

  abbrev pub last_of : V → List V → V
  last_of value [] = value
  last_of value (next ∷ later) = last_of next later

  -- it was refused for nothing when callers began to share it, and calls alone made it what it is
  pub record IsShared (is_sound is_taken : V → Type 0) (IsExit : V → V → Type 0) (value : V) : Type 0 where
    pub first : V
    pub taken : is_taken first
    pub sound : is_sound first
    pub later : List V
    pub calls : AreExits is_sound IsExit first later
    pub last : last_of first later ≡ value

abbrev pub IsSharedShard : {K : Type 0} → (K → Type 0) → (K → Type 0) → (K → Option (List ShardRow))
    → (K → Option (List ShardRow) → Type 0) → ShardView K → Type 0
IsSharedShard is_honest is_open read may_leave =
    IsShared (IsSoundShard is_honest is_open read) (λ shard. shard.is_refused ≡ false)
    (λ old new. (entries : List Entry) × IsShardExit is_honest may_leave entries old new)

abbrev pub IsSharedBook : {L : Type 0} → (L → Type 0) → (L → Type 0) → (L → Option (List BookRow))
    → (L → Option (List BookRow) → Type 0) → BookView L → Type 0
IsSharedBook is_honest is_open read may_leave =
    IsShared (IsSoundBook is_honest is_open read) (λ book. book.is_refused ≡ false) (IsBookExit is_honest may_leave)

-- ---- what was told as kept

-- the verdict under which an event is kept, by what is told of it
abbrev pub verdict_told : Option Outcome → Option Verdict
verdict_told None = None
verdict_told (Some (outcome.Kept verdict)) = Some verdict
verdict_told (Some (outcome.Known verdict)) = Some verdict
verdict_told (Some (outcome.Refused cause)) = None

-- so of the answer to a call that keeps an event; the event that makes a room is accepted
abbrev pub verdict_answered : Answer → Option Verdict
verdict_answered (Hosted id) = Some Accepted
verdict_answered (ToOffered result) = verdict_told (Some result)
verdict_answered (ToJoined (join.Offered result joined)) = verdict_told (Some result)
verdict_answered other = None

-- the event that a call sends
abbrev pub event_sent : Call → Option Offered
event_sent (to_host o) = Some o
event_sent (to_offer origin o) = Some o
event_sent (to_join origin o) = Some o
event_sent (to_ask origin now q) = None

-- A room with this record has the event with this id, under this verdict.
pub record IsKeptAs (record_ : List Kept) (id : List ℕ) (verdict : Verdict) : Type 0 where
  pub place : ℕ
  pub there : place_of (rows_of record_) id ≡ Some place
  pub judged : (kept_at record_ place).verdict ≡ verdict

-- what the caller has seen of the shard of a room, and of the book of a transaction
abbrev pub seen_of_room : List (BerthView Entry) → List ℕ → List Entry
seen_of_room shards room = (view_at shards (place_number (length shards) room)).seen

abbrev pub seen_of_book : List (BerthView BookEntry) → TransactionKey → List BookEntry
seen_of_book books key = (view_at books (book_number books key)).seen

-- ---- a server that is opened again

-- the journal begins with what was seen, and so the record of each room with the one that this makes: each event is at its
-- place, with its verdict
pub record Remembers (seen journal : List Entry) : Type 0 where
  pub entries : IsPrefix seen journal
  pub records : (room : List ℕ) → IsPrefix (record_of seen room) (record_of journal room)
  pub events : (room id : List ℕ) (verdict : Verdict) → IsKeptAs (record_of seen room) id verdict
      → IsKeptAs (record_of journal room) id verdict

-- A shard that is opened again over what was left remembers what was seen, where its ids are those that are worked out of
-- its events.
abbrev pub ShardRemembers : {K : Type 0} → (K → Type 0) → (K → Type 0) → (K → Option (List ShardRow))
    → (K → Option (List ShardRow) → Type 0) → Option (List ShardRow) → List Entry → Type 0
ShardRemembers {K = K} is_ready is_honest read may_leave left seen =
    AreWorkedOut seen → (keeper : K) (opened : ShardView K) → read keeper ≡ left
    → IsReopenedShard is_ready is_honest read may_leave keeper opened
    → is_honest opened.keeper → Remembers seen opened.journal

-- A book that is opened again over what was left has each reply that was seen as kept.
abbrev pub BookRemembers : {L : Type 0} → (L → Type 0) → (L → Type 0) → (L → Option (List BookRow))
    → (L → Option (List BookRow) → Type 0) → Option (List BookRow) → List BookEntry → Type 0
BookRemembers {L = L} is_ready is_honest read may_leave left seen =
    (keeper : L) (opened : BookView L) → read keeper ≡ left → IsReopenedBook is_ready is_honest read may_leave keeper opened
    → is_honest opened.keeper → (key : TransactionKey) (reply : List ℕ) → hold_of seen key ≡ kept reply
    → hold_of opened.journal key ≡ kept reply

-- So it is of what a caller has seen of each shard, and of each book, of a server.
pub record ShardsRemember {K : Type 0} (seen : List (BerthView Entry)) (shards : List (ShardView K)) : Type 0 where
  pub some : 0 < length shards
  pub same : length seen ≡ length shards
  pub each : (n : ℕ) (d : ShardView K) → n < length shards → Remembers (view_at seen n).seen (get_or shards n d).journal

pub record BooksRemember {L : Type 0} (seen : List (BerthView BookEntry)) (books : List (BookView L)) : Type 0 where
  pub some : 0 < length books
  pub same : length seen ≡ length books
  pub each : (n : ℕ) (d : BookView L) → n < length books
      → (key : TransactionKey) (reply : List ℕ) → hold_of (view_at seen n).seen key ≡ kept reply
      → hold_of (get_or books n d).journal key ≡ kept reply
