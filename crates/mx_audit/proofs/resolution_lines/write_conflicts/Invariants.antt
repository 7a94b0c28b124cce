use Rattle.std.proofs.Common.{◌≡◌, ◌++◌, List, ℕ, drop}
use Rattle.mx_audit.specs.EventLines.{conflicts_text}
use Rattle.mx_audit.proofs.resolution_lines.write_conflicts.Given as goal

-- what was written, with the lines of the states that are left, is the whole
abbrev pub invariant-loop-place : goal.invariant-loop-place
invariant-loop-place g l =
    (taken : List ℕ) → g.S.TextSink.has_taken l.initial.sink taken
    → (out : List ℕ) × g.S.TextSink.has_taken l.sink out
    × (out ++ conflicts_text l.timeline.kept l.place (drop l.place l.states) ≡ taken ++ conflicts_text l.timeline.kept 0 l.states)
