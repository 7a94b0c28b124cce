-- A shard that is opened again over the rows of a journal.
use Rattle.std.proofs.Common.{◌≡◌, suc, List, [], ◌∷◌, ◌++◌, refl, sym, arith}
use Rattle.mx_shard.specs.Journal.{Entry, stored, stored_behind, reopened, AreWorkedOut}

again-behind : (earlier journal : List Entry) → AreWorkedOut journal → reopened (stored_behind earlier journal) ≡ journal
again-behind earlier [] ids = refl
again-behind earlier (e ∷ es) ids =
    λ i. (let f : Entry = record { room = e.room; id = sym (ids 0 e (omega arith)) i; event = e.event; caller = e.caller } in f) ∷ again-behind (earlier ++ e ∷ []) es (λ k d l. ids (suc k) d (omega arith)) i

pub journal-again : (journal : List Entry) → AreWorkedOut journal → reopened (stored journal) ≡ journal
journal-again = again-behind []
