use Rattle.std.proofs.Common.{◌≡◌, ◌++◌, List, ℕ, drop}
use Rattle.std.specs.List.{flat_map}
use Rattle.mx_page.specs.Escaping.{escaped_byte}
use Rattle.mx_page.proofs.escaping.write_escaped.Given as goal

-- what was written, with the texts of those that are left, is the whole
abbrev pub invariant-loop-byte : goal.invariant-loop-byte
invariant-loop-byte g l =
    (taken : List ℕ) → g.S.TextSink.has_taken l.initial.sink taken
    → (out : List ℕ) × g.S.TextSink.has_taken l.sink out
    × (out ++ flat_map escaped_byte (drop l.byte-index l.text) ≡ taken ++ flat_map escaped_byte l.text)
