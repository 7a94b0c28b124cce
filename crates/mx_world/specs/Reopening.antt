-- Servers that are opened again over the rows that are left (our own).
use Rattle.std.specs.Prelude.{ℕ, ◌≡◌, ◌<◌, false, List, length, get_or, Option, Some, IsTrue}
use Rattle.mx_keeper.specs.Places.{PlaceView}
use Rattle.mx_keeper.specs.declared.rows.ShardRow.{ShardRow}
use Rattle.mx_keeper.specs.declared.rows.BookRow.{BookRow}
use Rattle.mx_shard.specs.Journal.{Entry, stored as stored_events, reopened as reopened_events, AreWorkedOut}
use Rattle.mx_shard.specs.View.{ShardView}
use Rattle.mx_book.specs.Journal.{hold_of, is_legal, can_reopen, stored as stored_replies, reopened as reopened_replies, after_stop}
use Rattle.mx_book.specs.View.{BookView}
use Rattle.mx_book.specs.declared.entries.BookEntry.{BookEntry}
use Rattle.mx_book.specs.declared.transaction_keys.TransactionKey.{TransactionKey}
use Rattle.mx_keeper.specs.declared.refusals.CallError.{CallError}
use Rattle.mx_keeper.specs.declared.refusals.CallError.TheVariants as call
use Rattle.mx_world.specs.declared.open_errors.OpenError.{OpenError}
use Rattle.mx_world.specs.declared.open_errors.OpenError.TheVariants.{Memory, Shard, Book}

-- ---- what is opened, by what its keeper tells

-- the shard has the entries of its rows, and these are the rows that its keeper had
pub record IsReopenedShard {K : Type 0} (is_ready honest : K → Type 0) (read : K → Option (List ShardRow)) (may_leave : K → Option (List ShardRow) → Type 0) (keeper : K) (shard : ShardView K) : Type 0 where
  pub journal : shard.journal ≡ reopened_events (stored_events shard.journal)
  pub taken : shard.is_refused ≡ false
  pub rows : honest shard.keeper → honest keeper × (read keeper ≡ Some (stored_events shard.journal))
  pub crash : honest shard.keeper → (left : Option (List ShardRow)) → may_leave shard.keeper left → may_leave keeper left
  -- a keeper that was ready is as honest as it was
  pub ready : is_ready keeper → honest keeper → honest shard.keeper
  -- it has the journal whose rows the keeper had, where its ids are those that are worked out of its events
  pub again : honest shard.keeper → (journal : List Entry) → read keeper ≡ Some (stored_events journal) → AreWorkedOut journal → shard.journal ≡ journal

-- the book has the entries of its rows, and these are the rows that its keeper had
pub record IsReopenedBook {L : Type 0} (is_ready honest : L → Type 0) (read : L → Option (List BookRow)) (may_leave : L → Option (List BookRow) → Type 0) (keeper : L) (book : BookView L) : Type 0 where
  pub journal : book.journal ≡ reopened_replies (stored_replies book.journal)
  pub taken : book.is_refused ≡ false
  pub rows : honest book.keeper → honest keeper × (read keeper ≡ Some (stored_replies book.journal))
  pub crash : honest book.keeper → (left : Option (List BookRow)) → may_leave book.keeper left → may_leave keeper left
  -- a keeper that was ready is as honest as it was
  pub ready : is_ready keeper → honest keeper → honest book.keeper
  -- of a legal journal whose rows the keeper had it knows the replies that were kept, and what was begun is free
  pub again : honest book.keeper → (journal : List BookEntry) → read keeper ≡ Some (stored_replies journal) → IsTrue (is_legal journal)
      → (key : TransactionKey) → hold_of book.journal key ≡ after_stop (hold_of journal key)

-- each is, over the keeper with its number
abbrev pub AreOver : {K V : Type 0} → (K → V → Type 0) → List K → List V → Type 0
AreOver {K = K} {V = V} is keepers views = (n : ℕ) (k : K) (v : V) → n < length keepers → is (get_or keepers n k) (get_or views n v)

-- ---- what is refused

-- nothing can be opened over a keeper: where it is ready and honest, the rows that it has are not such
abbrev pub CannotReopen : {K Row : Type 0} → (List Row → Type 0) → (K → Type 0) → (K → Type 0) → (K → Option (List Row)) → K → Type 0
CannotReopen {Row = Row} can is_ready honest read keeper = is_ready keeper → honest keeper → (rows : List Row) → read keeper ≡ Some rows → ¬ (can rows)

-- so it is with the keeper with this number, at the place with that number
abbrev pub CannotAt : {K : Type 0} → (PlaceView → K → Type 0) → List K → ℕ → Type 0
CannotAt {K = K} cannot keepers n =
    (n < length keepers) × ((d : K) → cannot (record { number = n; count = length keepers }) (get_or keepers n d))

abbrev pub CannotReopenAt : {K Row : Type 0} → (PlaceView → List Row → Type 0) → (K → Type 0) → (K → Type 0) → (K → Option (List Row)) → List K → ℕ → Type 0
CannotReopenAt can is_ready honest read keepers n = CannotAt (λ place. CannotReopen (can place) is_ready honest read) keepers n

-- a book at this place can have these rows
abbrev pub CanReopenBook : PlaceView → List BookRow → Type 0
CanReopenBook place rows = IsTrue (can_reopen place rows)

-- why no server was opened: of the keeper that is named, among those for shards or those for books, and of no other
abbrev pub IsRefusedFor : (ℕ → Type 0) → (ℕ → Type 0) → OpenError → Type 0
IsRefusedFor shard book Memory = Unit {0}
IsRefusedFor shard book (Shard n) = shard n
IsRefusedFor shard book (Book n) = book n

-- as an error of a call
abbrev pub cause_of : OpenError → CallError
cause_of Memory = call.Memory
cause_of (Shard n) = call.Storage
cause_of (Book n) = call.Storage
