-- What is kept beside the rows of a record.
use Rattle.std.proofs.Common.{Result, Ok, Err, IfOk}

-- what follows from what holds of a result
pub ok-then : {T E : Type 0} (r : Result T E) (P Q : T → Type 0) → ((x : T) → P x → Q x) → IfOk r P → IfOk r Q
ok-then (Ok x) P Q f h = f x h
ok-then (Err e) P Q f h = h
