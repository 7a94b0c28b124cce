-- For proofs and private clauses alone.
-- Lines, as they are taken from an input one after another.
use Rattle.std.specs.Prelude.{◌≡◌, ◌≢◌, ◌<◌, ◌≤◌, ◌+◌, ◌-◌, ◌*◌, ◌++◌, ◌∷◌, ℕ, Bool, true, false, List, [], All, Option, None, Some, slice_range}
use Rattle.std.specs.Io.KnownBytes.{prepend_known}
use Rattle.mx_log.specs.Lines.{lines_of}
use Rattle.mx_log.specs.declared.line_reader.LineReader.{LineReader}
use Rattle.mx_log.specs.declared.line_reader.TheConstants.{CHUNK_BYTES}

-- no newline is in it
abbrev pub IsOneLine : List ℕ → Type 0
IsOneLine line = All (λ c. c ≢ 10) line

-- what was read and not yet taken
abbrev pub held : LineReader → List ℕ
held lines = slice_range lines.chunk.items lines.start lines.end

-- what is not yet taken, where it is known what the input has left
abbrev pub left : LineReader → Option (List ℕ) → Option (List ℕ)
left lines remaining = prepend_known (held lines) remaining

-- falls with each read, and with each line that a newline ends
abbrev pub turns_left : LineReader → ℕ
turns_left lines = lines.reads_left * (CHUNK_BYTES + 1) + (lines.end - lines.start)

-- a line, its newline if that was there, and the rest
abbrev pub before_rest : (is_ended : Bool) → (line rest : List ℕ) → List ℕ
before_rest true line rest = line ++ 10 ∷ rest
before_rest false line rest = line ++ rest

-- a line was taken, or all that was held as a part of one
pub record IsTakenFrom (old new : LineReader) (is_ended : Bool) (line : List ℕ) : Type 0 where
  pub one : IsOneLine line
  pub parts : held old ≡ before_rest is_ended line (held new)
  pub all : is_ended ≡ false → held new ≡ []
  pub no_more : turns_left new ≤ turns_left old
  pub fewer : is_ended ≡ true → turns_left new < turns_left old

-- these lines come first in what is known, and the others are left
abbrev pub AreTaken : Option (List ℕ) → Option (List ℕ) → List (List ℕ) → Type 0
AreTaken None rest lines = Unit {0}
AreTaken (Some all) None lines = ⊥
AreTaken (Some all) (Some rest) lines = lines_of all ≡ lines ++ lines_of rest
