-- Pieces of a line that were written one after another.
use Rattle.std.proofs.Common.{◌≡◌, ◌++◌, ℕ, List, append_assoc}

pub six : (t a b c d e f : List ℕ) → (((((t ++ a) ++ b) ++ c) ++ d) ++ e) ++ f ≡ t ++ (a ++ (b ++ ((c ++ (d ++ e)) ++ f)))
six t a b c d e f = simp (append_assoc)

pub seven : (t a b c d e f g : List ℕ) → ((((((t ++ a) ++ b) ++ c) ++ d) ++ e) ++ f) ++ g ≡ t ++ (a ++ (b ++ (c ++ (d ++ (e ++ (f ++ g))))))
seven t a b c d e f g = simp (append_assoc)
