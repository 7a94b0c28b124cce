-- Transactions, told from the steps before a moment (our own): which are open, what each has still to take, and which
-- calls each room gets.
use Rattle.std.specs.Prelude.{ℕ, ◌+◌, ◌-◌, ◌==◌, Bool, true, false, ◌&&◌, ◌||◌, if◌then◌else◌, List, [], ◌∷◌, ◌++◌, bytes_eq, drop, Option, Some, None, is_some}
use Rattle.mx_room.specs.Offer.{Offered}
use Rattle.mx_shard.specs.LoneRoom.{Call, to_host, to_offer, to_join, to_ask, call_room, record_alone}
use Rattle.mx_book.specs.Transactions.{same}
use Rattle.mx_receipt.specs.Receipt.{Kept}
use Rattle.mx_book.specs.declared.transaction_keys.TransactionKey.{TransactionKey}
use Rattle.mx_world.specs.declared.steps.Step.{Step}
use Rattle.mx_world.specs.declared.steps.Step.TheVariants.{Host, Open, Next, Close, Join, Ask}

-- what there is before the first step: each room's record, and the replies kept for good
pub record Start : Type 0 where
  pub record_at : List ℕ → List Kept
  pub kept_at : TransactionKey → Option (List ℕ)

-- ---- transactions

-- the events of an opening, and the steps after it
pub record Opening : Type 0 where
  pub events : List Offered
  pub since : List Step

-- the first opening of p
abbrev pub first_open : TransactionKey → List Step → Option Opening
first_open p [] = None
first_open p (Open q events ∷ steps) =
    if same p q then Some (record { events = events.items; since = steps }) else first_open p steps
first_open p (step ∷ steps) = first_open p steps

-- the opening of p by these steps: none where p was kept before them
abbrev pub opening : Start → TransactionKey → List Step → Option Opening
opening s p steps = if is_some (s.kept_at p) then None else first_open p steps

-- how many Nexts of p there are
abbrev pub turn : TransactionKey → List Step → ℕ
turn p [] = 0
turn p (Next q ∷ steps) = if same p q then 1 + turn p steps else turn p steps
turn p (step ∷ steps) = turn p steps

-- whether a Close of p stands among the steps, after at least n Nexts of p
abbrev pub is_closed : TransactionKey → ℕ → List Step → Bool
is_closed p n [] = false
is_closed p n (Next q ∷ steps) = is_closed p (if same p q then n - 1 else n) steps
is_closed p n (Close q ∷ steps) = (same p q && (n == 0)) || is_closed p n steps
is_closed p n (step ∷ steps) = is_closed p n steps

-- the events that p has still to take: those of its opening from the place `turn` on
abbrev pub left_of : TransactionKey → Option Opening → List Offered
left_of p None = []
left_of p (Some o) = drop (turn p o.since) o.events

abbrev pub left : Start → List Step → TransactionKey → List Offered
left s steps p = left_of p (opening s p steps)

-- ---- calls

abbrev pub concerns : List ℕ → Option (List ℕ) → Bool
concerns room None = true
concerns room (Some named) = bytes_eq named room

-- the call, if it is put to the room
abbrev pub if_put_to : List ℕ → Call → List Call
if_put_to room call = if concerns room (call_room call) then call ∷ [] else []

-- the call that the first of these events makes
abbrev pub offers : List ℕ → List ℕ → List Offered → List Call
offers room origin [] = []
offers room origin (o ∷ rest) = if_put_to room (to_offer origin o)

-- the call of the room that a step makes, where each key has these events left
abbrev pub call_of : List ℕ → (TransactionKey → List Offered) → Step → List Call
call_of room left (Host o) = if_put_to room (to_host o)
call_of room left (Join origin o) = if_put_to room (to_join origin o)
call_of room left (Open p events) = []
call_of room left (Next p) = offers room p.origin (left p)
call_of room left (Close p) = []
call_of room left (Ask origin now q) = if_put_to room (to_ask origin now q)

-- the calls of the room that the later steps make, after the earlier ones
abbrev pub calls_from : Start → List ℕ → List Step → List Step → List Call
calls_from s room earlier [] = []
calls_from s room earlier (step ∷ later) =
    call_of room (left s earlier) step ++ calls_from s room (earlier ++ step ∷ []) later

abbrev pub calls : Start → List ℕ → List Step → List Call
calls s room steps = calls_from s room [] steps

-- the room's record after these steps: that of a server which hosts it alone and got its calls
abbrev pub record_after : Start → List Step → List ℕ → List Kept
record_after s steps room = record_alone (s.record_at room) (calls s room steps)
