-- Journals: lists of entries, each of which has a caller (our own).
use Rattle.std.specs.Prelude.{◌≡◌, ◌==◌, ℕ, List, ◌++◌, filter, drop, length}

module _ {E : Type 0} where
  -- the journal begins with the first entries
  abbrev pub IsPrefix : List E → List E → Type 0
  IsPrefix first journal = (rest : List E) × (journal ≡ first ++ rest)

  -- what the journal has behind the entries that were seen
  abbrev pub since : List E → List E → List E
  since seen journal = drop (length seen) journal

  -- the entries of one caller, in their order
  abbrev pub entries_of : (E → ℕ) → ℕ → List E → List E
  entries_of caller number journal = filter (λ e. caller e == number) journal
