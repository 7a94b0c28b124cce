-- What several rooms answer to a query (our own).
use Rattle.std.specs.Prelude.{ℕ, ◌≡◌, List, Option, Some, None, Ok, Err, IsTrue}
use Rattle.mx_receipt.specs.Receipt.{Kept}
use Rattle.mx_room.specs.declared.queries.Denied.TheVariants.{NotFound}
use Rattle.mx_shard.specs.LoneRoom.{Call, answer}
use Rattle.mx_shard.specs.Told.{tells_shown}
use Rattle.mx_shard.specs.declared.answers.Answer.{Answer}
use Rattle.mx_shard.specs.declared.answers.Answer.TheVariants.{ToAsked}

-- what some room shows; not found only where each room answers so
abbrev pub IsShown : (List ℕ → List Kept) → Call → Answer → Type 0
IsShown rows call (ToAsked (Ok reply)) = (room : List ℕ) × (answer (rows room) call ≡ ToAsked (Ok reply))
IsShown rows call (ToAsked (Err denied)) =
    (denied ≡ NotFound) × ((room : List ℕ) → answer (rows room) call ≡ ToAsked (Err NotFound))
IsShown rows call other = ⊥

-- the room that the call is put to shows what it asks for, else some room does
abbrev pub HasShown : (List ℕ → List Kept) → Call → Option (List ℕ) → Type 0
HasShown rows call (Some room) = IsTrue (tells_shown (answer (rows room) call))
HasShown rows call None = (room : List ℕ) × IsTrue (tells_shown (answer (rows room) call))

-- the answer of the room that the call is put to, else what some room shows
abbrev pub IsAnswer : (List ℕ → List Kept) → Call → Option (List ℕ) → Answer → Type 0
IsAnswer rows call (Some room) a = a ≡ answer (rows room) call
IsAnswer rows call None a = IsShown rows call a
