use Rattle.std.proofs.Common.{◌≡◌, ◌++◌, List, ℕ, drop}
use Rattle.std.specs.List.{flat_map}
use Rattle.mx_page.specs.EntryTexts.{comma_for}
use Rattle.mx_page.proofs.entry_texts.write_items.Given as goal

-- what was written, with the texts of those that are left, is the whole
abbrev pub invariant-loop-byte : goal.invariant-loop-byte
invariant-loop-byte g l =
    (taken : List ℕ) → g.S.TextSink.has_taken l.initial.sink taken
    → (out : List ℕ) × g.S.TextSink.has_taken l.sink out
    × (out ++ flat_map comma_for (drop l.byte-index l.lines) ≡ taken ++ flat_map comma_for l.lines)
