-- What a sink has taken.
use Rattle.std.specs.Prelude.{◌≡◌, Bool, ℕ, ◌-◌, ◌^◌, List, false, length, min}
use Rattle.mx_canon.specs.declared.sinks.TextLength.{TextLength}
use Rattle.mx_canon.specs.declared.sinks.TextBuffer.{TextBuffer}

-- a count that stops at the largest that 64 bits hold
abbrev pub counted : ℕ → ℕ
counted n = min n (2 ^ 64 - 1)

abbrev pub IsLengthOf : TextLength → List ℕ → Type 0
IsLengthOf count text = count.bytes ≡ counted (length text)

-- the buffer was refused the memory for a piece
abbrev pub is_refused : TextBuffer → Bool
is_refused buffer = buffer.is_refused

-- the buffer holds the text, unless it was refused
abbrev pub HoldsText : TextBuffer → List ℕ → Type 0
HoldsText buffer text = is_refused buffer ≡ false → buffer.bytes.items ≡ text
