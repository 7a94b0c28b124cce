-- For proofs and private clauses alone.
-- The text that a hasher has taken.
use Rattle.std.specs.Prelude.{◌≡◌, ℕ, List, ◌++◌}
use Rattle.sha2.specs.Hashers.{Holds256}
use Rattle.mx_redact.specs.declared.hashers.TextHasher.{TextHasher}

-- what the hash has taken, and then what waits
abbrev pub HoldsMessage : TextHasher → List ℕ → Type 0
HoldsMessage h text = (before : List ℕ) × Holds256 h.hasher before × (text ≡ before ++ h.waiting.items)
