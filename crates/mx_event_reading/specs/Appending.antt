-- What was put behind a vector. Only the crate's private clauses cite it.
use Rattle.std.specs.Prelude.{◌≡◌, ℕ, List, false}
use Rattle.mx_event_reading.specs.declared.in_order.sinks.Appending.{Appending}

-- the vector holds the text, unless it was refused the memory for a piece
abbrev pub HasTaken : Appending → List ℕ → Type 0
HasTaken sink text = sink.is_refused ≡ false → sink.bytes.items ≡ text
