use Rattle.std.proofs.Common.{◌≡◌, ◌++◌, List, ℕ, drop}
use Rattle.std.specs.List.{join_with_byte}
use Rattle.mx_canon.specs.Canonical.{item_texts}
use Rattle.mx_canon.proofs.PieceLemmas.{left}
use Rattle.mx_audit.specs.EventLines.{asked_items}
use Rattle.mx_audit.proofs.entry_lines.write_asked.Given as goal

abbrev pub invariant-loop-entry : goal.invariant-loop-entry
invariant-loop-entry g l =
    (taken : List ℕ) → g.S.TextSink.has_taken l.initial.sink taken
    → (out : List ℕ) × g.S.TextSink.has_taken l.sink out
    × (out ++ left l.later (item_texts (asked_items l.timeline.kept l.judged (drop l.entry-index l.asked))) ≡ taken ++ join_with_byte 44 (item_texts (asked_items l.timeline.kept l.judged l.asked)))
