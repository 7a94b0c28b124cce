-- What is left of a server that is stopped, and what it tells once it is opened again (our own).
use Rattle.std.specs.Prelude.{ℕ, ◌≡◌, ◌⊎◌, false, if◌then◌else◌, List, ◌++◌, Option, Some}
use Rattle.mx_graph.specs.Record.{place_of}
use Rattle.mx_receipt.specs.Receipt.{Kept, rows_of, kept_at}
use Rattle.mx_access.specs.Acl.{acl_allows}
use Rattle.mx_keeper.specs.declared.rows.ShardRow.{ShardRow}
use Rattle.mx_keeper.specs.declared.rows.BookRow.{BookRow}
use Rattle.mx_room.specs.Offer.{Offered}
use Rattle.mx_room.specs.declared.outcomes.Outcome.TheVariants as outcome
use Rattle.mx_room.specs.declared.outcomes.Refusal.TheVariants.{AccessList}
use Rattle.mx_shard.specs.Journal.{stored as stored_events}
use Rattle.mx_shard.specs.View.{ShardView}
use Rattle.mx_book.specs.Journal.{stored as stored_replies}
use Rattle.mx_book.specs.View.{BookView}
use Rattle.mx_book.specs.declared.transaction_keys.TransactionKey.{TransactionKey}
use Rattle.mx_world.specs.Crashes.{rows_called, rows_ended, step_call, step_entry}
use Rattle.mx_world.specs.Replies.{Status, outcome_in}
use Rattle.mx_world.specs.declared.steps.Step.{Step}

-- ---- what a crash leaves of a shard or a book that was refused for nothing at an earlier moment

-- the rows of its journal, or these with the row that a refused step tried to add
abbrev pub LeavesRows : {V K Row : Type 0} → (V → K) → (V → List Row) → (K → Type 0) → (K → Option (List Row) → Type 0) → V → List Row → Type 0
LeavesRows {Row = Row} keeper rows is_honest may_leave new tried =
    is_honest (keeper new) → (left : Option (List Row)) → may_leave (keeper new) left → (left ≡ Some (rows new)) ⊎ (left ≡ Some tried)

abbrev pub ShardLeaves : {K : Type 0} → (K → Type 0) → (K → Option (List ShardRow) → Type 0) → (TransactionKey → Status) → Option Step → ShardView K → ShardView K → Type 0
ShardLeaves is_honest may_leave status refused old new =
    old.is_refused ≡ false
    → LeavesRows (λ shard. shard.keeper) (λ shard. stored_events shard.journal) is_honest may_leave new (rows_called (step_call status refused) new)

abbrev pub BookLeaves : {L : Type 0} → (L → Type 0) → (L → Option (List BookRow) → Type 0) → (TransactionKey → Status) → Option Step → BookView L → BookView L → Type 0
BookLeaves is_honest may_leave status refused old new =
    old.is_refused ≡ false
    → LeavesRows (λ book. book.keeper) (λ book. stored_replies book.journal) is_honest may_leave new (rows_ended (step_entry status refused) new)

-- ---- what is told of an event that is sent again

-- of an event that a room has kept each later record tells the verdict that it had, unless the access list denies the server
abbrev pub KnownEventsKeepTheirVerdicts : Type 0
KnownEventsKeepTheirVerdicts =
    (kept later : List Kept) (origin : List ℕ) (o : Offered) (p : ℕ) → place_of (rows_of kept) o.id ≡ Some p
    → outcome_in (kept ++ later) origin o
    ≡ Some (if acl_allows (kept ++ later) origin then outcome.Known (kept_at kept p).verdict else outcome.Refused AccessList)
