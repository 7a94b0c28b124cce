-- What a crash leaves of a server's rows (our own).
use Rattle.std.specs.Prelude.{ℕ, ◌≡◌, ◌⊎◌, if◌then◌else◌, List, [], ◌∷◌, ◌++◌, length, get_or, Option, Some, None, Result, Ok, Err}
use Rattle.mx_keeper.specs.Places.{PlaceView, is_at}
use Rattle.mx_keeper.specs.declared.rows.ShardRow.{ShardRow}
use Rattle.mx_keeper.specs.declared.rows.BookRow.{BookRow}
use Rattle.mx_room.specs.Offer.{Offered}
use Rattle.mx_shard.specs.LoneRoom.{Call, to_host, to_offer, to_join, call_room}
use Rattle.mx_shard.specs.Journal.{Entry, journal_after, stored as stored_events}
use Rattle.mx_shard.specs.View.{ShardView}
use Rattle.mx_book.specs.Journal.{transaction_of, stored as stored_replies}
use Rattle.mx_book.specs.View.{BookView}
use Rattle.mx_book.specs.declared.transaction_keys.TransactionKey.{TransactionKey}
use Rattle.mx_book.specs.declared.entries.BookEntry.{BookEntry}
use Rattle.mx_book.specs.declared.entries.BookEntry.TheVariants.{Kept}
use Rattle.mx_world.specs.Replies.{Status, unopened, waiting, ended, body_of}
use Rattle.mx_world.specs.Moves.{rest_of}
use Rattle.mx_world.specs.View.{WorldView}
use Rattle.mx_world.specs.declared.callers.TheConstants.{SOLE_CALLER}
use Rattle.mx_world.specs.declared.steps.Step.{Step}
use Rattle.mx_world.specs.declared.steps.Step.TheVariants.{Host, Open, Next, Close, Join, Ask}

-- ---- one shard or book, by its keeper and the rows of its journal

-- its keeper is honest only where it was before; a crash leaves the rows of its journal, or, where no row came to it, what
-- one might have left before, or the rows that a refused step tried to leave
pub record Leaves {V K Row : Type 0} (keeper : V → K) (rows : V → List Row) (is_honest : K → Type 0) (may_leave : K → Option (List Row) → Type 0) (old new : V) (tried : List Row) : Type 0 where
  pub honest : is_honest (keeper new) → is_honest (keeper old)
  pub crash : is_honest (keeper new) → (left : Option (List Row)) → may_leave (keeper new) left
      → (left ≡ Some (rows new)) ⊎ (((rows new ≡ rows old) × may_leave (keeper old) left) ⊎ (left ≡ Some tried))

-- ---- all shards, or all books, by their places

pub record AllLeave {V K Row : Type 0} (keeper : V → K) (rows : V → List Row) (is_honest : K → Type 0) (may_leave : K → Option (List Row) → Type 0) (tried : V → List Row) (olds news : List V) : Type 0 where
  pub long : length news ≡ length olds
  pub each : (n : ℕ) (d : V) → Leaves keeper rows is_honest may_leave (get_or olds n d) (get_or news n d) (tried (get_or news n d))

-- a shard's journal with what a call would add, where its room is of the shard's place
abbrev pub journal_called : PlaceView → List Entry → Call → Option (List ℕ) → List Entry
journal_called place journal call None = journal
journal_called place journal call (Some room) = if is_at place room then journal_after journal SOLE_CALLER room call else journal

-- the rows that a call tried to leave; a call that is refused leaves the journal as it is
abbrev pub rows_called : {K : Type 0} → Option Call → ShardView K → List ShardRow
rows_called None shard = stored_events shard.journal
rows_called (Some call) shard = stored_events (journal_called shard.place shard.journal call (call_room call))

-- a book's journal with one entry more, where it is of the book's place
abbrev pub journal_ended : {L : Type 0} → BookView L → BookEntry → List BookEntry
journal_ended book entry = if is_at book.place (transaction_of entry).origin then book.journal ++ entry ∷ [] else book.journal

-- the rows that an entry would have left
abbrev pub rows_ended : {L : Type 0} → Option BookEntry → BookView L → List BookRow
rows_ended None book = stored_replies book.journal
rows_ended (Some entry) book = stored_replies (journal_ended book entry)

abbrev pub ShardsLeave : {K : Type 0} → (K → Type 0) → (K → Option (List ShardRow) → Type 0) → Option Call → List (ShardView K) → List (ShardView K) → Type 0
ShardsLeave is_honest may_leave tried = AllLeave (λ shard. shard.keeper) (λ shard. stored_events shard.journal) is_honest may_leave (rows_called tried)

abbrev pub BooksLeave : {L : Type 0} → (L → Type 0) → (L → Option (List BookRow) → Type 0) → Option BookEntry → List (BookView L) → List (BookView L) → Type 0
BooksLeave is_honest may_leave tried = AllLeave (λ book. book.keeper) (λ book. stored_replies book.journal) is_honest may_leave (rows_ended tried)

-- ---- what a refused step tried, by the status before it

-- this at an error, and otherwise nothing
abbrev pub at_error : {A E B : Type 0} → Result A E → Option B → Option B
at_error (Ok a) tried = None
at_error (Err e) tried = tried

-- the call of the next event's room
abbrev pub next_call : List ℕ → List Offered → Option Call
next_call origin [] = None
next_call origin (o ∷ rest) = Some (to_offer origin o)

-- the call of its room
abbrev pub step_call : (TransactionKey → Status) → Option Step → Option Call
step_call status None = None
step_call status (Some (Host o)) = Some (to_host o)
step_call status (Some (Join origin o)) = Some (to_join origin o)
step_call status (Some (Open p events)) = None
step_call status (Some (Next p)) = next_call p.origin (rest_of (status p))
step_call status (Some (Close p)) = None
step_call status (Some (Ask origin now q)) = None

-- the entry with the reply of a transaction that has no event left
abbrev pub close_entry : TransactionKey → Status → Option BookEntry
close_entry p unopened = None
close_entry p (waiting [] told) = Some (Kept p SOLE_CALLER (body_of told))
close_entry p (waiting (o ∷ rest) told) = None
close_entry p (ended body) = None

-- the entry of its book that has a row
abbrev pub step_entry : (TransactionKey → Status) → Option Step → Option BookEntry
step_entry status None = None
step_entry status (Some (Host o)) = None
step_entry status (Some (Join origin o)) = None
step_entry status (Some (Open p events)) = None
step_entry status (Some (Next p)) = None
step_entry status (Some (Close p)) = close_entry p (status p)
step_entry status (Some (Ask origin now q)) = None

-- ---- a server, by what its keepers tell

-- what a crash leaves of each shard and of each book since an earlier moment; the last step since then was refused, or none was
pub record CrashLeaves {K L : Type 0} (shard_honest : K → Type 0) (shard_leaves : K → Option (List ShardRow) → Type 0) (book_honest : L → Type 0) (book_leaves : L → Option (List BookRow) → Type 0) (status : TransactionKey → Status) (refused : Option Step) (old new : WorldView K L) : Type 0 where
  pub shards : ShardsLeave shard_honest shard_leaves (step_call status refused) old.shards new.shards
  pub books : BooksLeave book_honest book_leaves (step_entry status refused) old.books new.books
