-- What a server of rooms keeps (our own): each room's record, and the status of each transaction.
use Rattle.std.specs.Prelude.{ℕ, ◌≡◌, ◌==◌, Bool, ◌||◌, if◌then◌else◌, List, [], length, map, get_or, Option, Some, None}
use Rattle.std.specs.List.{list_any}
use Rattle.std.specs.Map.{lookup}
use Rattle.std.specs.Ordering.{is_eq}
use Rattle.mx_keeper.specs.Places.{place_number}
use Rattle.mx_receipt.specs.Receipt.{Kept}
use Rattle.mx_shard.specs.Journal.{Entry, record_of}
use Rattle.mx_shard.specs.View.{ShardView}
use Rattle.mx_book.specs.Transactions.{same, transaction_cmp}
use Rattle.mx_book.specs.Journal.{Hold, free, begun, kept, hold_of}
use Rattle.mx_book.specs.View.{BookView}
use Rattle.mx_book.specs.declared.transaction_keys.TransactionKey.{TransactionKey}
use Rattle.mx_book.specs.declared.entries.BookEntry.{BookEntry}
use Rattle.mx_world.specs.Calls.{Start, record_after}
use Rattle.mx_world.specs.Replies.{Status, unopened, waiting, ended, status_after}
use Rattle.mx_world.specs.Moves.{RecordsMove, StatusesMove}
use Rattle.mx_world.specs.View.{Progress, WorldView}
use Rattle.mx_world.specs.declared.steps.Step.{Step}

-- of the journals of all places, the one at the place of a name
abbrev pub journal_at : {A : Type 0} → List (List A) → List ℕ → List A
journal_at journals name = get_or journals (place_number (length journals) name) []

-- ---- records

abbrev pub shard_journals : {K : Type 0} → List (ShardView K) → List (List Entry)
shard_journals shards = map (λ shard. shard.journal) shards

-- the record of a room is what the journal of its shard says of it
abbrev pub records_of : List (List Entry) → List ℕ → List Kept
records_of journals room = record_of (journal_at journals room) room

abbrev pub records_in : {K L : Type 0} → WorldView K L → List ℕ → List Kept
records_in w = records_of (shard_journals w.shards)

-- ---- statuses

abbrev pub book_journals : {L : Type 0} → List (BookView L) → List (List BookEntry)
book_journals books = map (λ book. book.journal) books

-- what the journal of its server's book says of a transaction
abbrev pub holds_of : List (List BookEntry) → TransactionKey → Hold
holds_of journals p = hold_of (journal_at journals p.origin) p

-- the progress of a transaction that is open
abbrev pub found : List (TransactionKey × Progress) → TransactionKey → Option Progress
found going p = lookup (λ q. is_eq (transaction_cmp p q)) going

-- what is open waits, and a reply that is kept has ended its transaction
abbrev pub status_found : Option Progress → Hold → Status
status_found (Some progress) state = waiting progress.rest progress.told
status_found None free = unopened
status_found None (begun caller) = unopened
status_found None (kept reply) = ended reply

abbrev pub statuses_of : List (TransactionKey × Progress) → List (List BookEntry) → TransactionKey → Status
statuses_of going journals p = status_found (found going p) (holds_of journals p)

abbrev pub status_in : {K L : Type 0} → WorldView K L → TransactionKey → Status
status_in w = statuses_of w.going (book_journals w.books)

-- ---- a server

abbrev pub kept_body : Status → Option (List ℕ)
kept_body unopened = None
kept_body (waiting rest told) = None
kept_body (ended body) = Some body

-- what a run begins with
abbrev pub start : {K L : Type 0} → WorldView K L → Start
start w = record { record_at = records_in w; kept_at = λ p. kept_body (status_in w p) }

-- no transaction is open
abbrev pub none_open : {K L : Type 0} → WorldView K L → Bool
none_open w = length w.going == 0

-- some shard or some book refuses all for want of storage
abbrev pub is_refused : {K L : Type 0} → WorldView K L → Bool
is_refused w = list_any (λ shard. shard.is_refused) w.shards || list_any (λ book. book.is_refused) w.books

-- at one key it changes so, and at no other
abbrev pub AtTransaction : {A : Type 0} → (TransactionKey → A) → (TransactionKey → A) → TransactionKey → (A → A) → Type 0
AtTransaction old new q change = (p : TransactionKey) → new p ≡ (if same p q then change (old p) else old p)

-- each journal, each room's record and each transaction's status stay
pub record Stays {K L : Type 0} (old new : WorldView K L) : Type 0 where
  pub shard_journals : shard_journals new.shards ≡ shard_journals old.shards
  pub book_journals : book_journals new.books ≡ book_journals old.books
  pub records : (room : List ℕ) → records_in new room ≡ records_in old room
  pub statuses : (p : TransactionKey) → status_in new p ≡ status_in old p

-- from old to new what is kept changes by the step
pub record Moves {K L : Type 0} (old new : WorldView K L) (step : Step) : Type 0 where
  pub records : RecordsMove (records_in old) (records_in new) (status_in old) step
  pub statuses : StatusesMove (records_in old) (status_in old) (status_in new) step

-- what is kept after these steps from a start
pub record IsAfter {K L : Type 0} (s : Start) (steps : List Step) (w : WorldView K L) : Type 0 where
  pub records : (room : List ℕ) → records_in w room ≡ record_after s steps room
  pub statuses : (p : TransactionKey) → status_in w p ≡ status_after s steps p
