use Rattle.std.proofs.Common.{◌≡◌, ◌++◌, List, ℕ, drop}
use Rattle.std.specs.List.{join_with_byte}
use Rattle.mx_canon.specs.Canonical.{item_texts}
use Rattle.mx_canon.proofs.PieceLemmas.{left}
use Rattle.mx_lines.specs.Lines.{text_items}
use Rattle.mx_lines.proofs.line_writing.write_ids.Given as goal

abbrev pub invariant-loop-id : goal.invariant-loop-id
invariant-loop-id g l =
    (taken : List ℕ) → g.S.TextSink.has_taken l.initial.sink taken
    → (out : List ℕ) × g.S.TextSink.has_taken l.sink out
    × (out ++ left l.later (item_texts (text_items (drop l.id-index l.ids))) ≡ taken ++ join_with_byte 44 (item_texts (text_items l.ids)))
