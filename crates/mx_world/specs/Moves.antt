-- What one more step does to a transaction and to a room's record (our own).
use Rattle.std.specs.Prelude.{ℕ, ◌≡◌, if◌then◌else◌, List, [], ◌∷◌, ◌++◌}
use Rattle.mx_room.specs.Offer.{Offered}
use Rattle.mx_shard.specs.LoneRoom.{record_alone}
use Rattle.mx_book.specs.Transactions.{same}
use Rattle.mx_world.specs.Calls.{call_of}
use Rattle.mx_world.specs.Replies.{told_of, body_of, Status, unopened, waiting, ended}
use Rattle.mx_receipt.specs.Receipt.{Kept}
use Rattle.mx_book.specs.declared.transaction_keys.TransactionKey.{TransactionKey}
use Rattle.mx_world.specs.declared.steps.Step.{Step}
use Rattle.mx_world.specs.declared.steps.Step.TheVariants.{Host, Open, Next, Close, Join, Ask}

abbrev pub rest_of : Status → List Offered
rest_of unopened = []
rest_of (waiting rest told) = rest
rest_of (ended body) = []

abbrev pub after_open : List Offered → Status → Status
after_open events unopened = waiting events []
after_open events (waiting rest told) = waiting rest told
after_open events (ended body) = ended body

abbrev pub after_next : (List ℕ → List Kept) → List ℕ → Status → Status
after_next rows origin unopened = unopened
after_next rows origin (waiting [] told) = waiting [] told
after_next rows origin (waiting (o ∷ rest) told) = waiting rest (told ++ told_of rows origin o ∷ [])
after_next rows origin (ended body) = ended body

abbrev pub after_close : Status → Status
after_close unopened = unopened
after_close (waiting [] told) = ended (body_of told)
after_close (waiting (o ∷ rest) told) = waiting (o ∷ rest) told
after_close (ended body) = ended body

-- a transaction that is given up while it is open
abbrev pub after_abandon : Status → Status
after_abandon unopened = unopened
after_abandon (waiting rest told) = unopened
after_abandon (ended body) = ended body

-- the status of p after a step, where the rooms have these records before it
abbrev pub moved : (List ℕ → List Kept) → Step → TransactionKey → Status → Status
moved rows (Host o) p st = st
moved rows (Join origin o) p st = st
moved rows (Open q events) p st = if same p q then after_open events.items st else st
moved rows (Next q) p st = if same p q then after_next rows p.origin st else st
moved rows (Close q) p st = if same p q then after_close st else st
moved rows (Ask origin now q) p st = st

-- each room's record is what its call makes of it
abbrev pub RecordsMove : (List ℕ → List Kept) → (List ℕ → List Kept) → (TransactionKey → Status) → Step → Type 0
RecordsMove old new status step = (room : List ℕ) → new room ≡ record_alone (old room) (call_of room (λ p. rest_of (status p)) step)

-- each key's status is what the step makes of it
abbrev pub StatusesMove : (List ℕ → List Kept) → (TransactionKey → Status) → (TransactionKey → Status) → Step → Type 0
StatusesMove rows old new step = (p : TransactionKey) → new p ≡ moved rows step p (old p)
