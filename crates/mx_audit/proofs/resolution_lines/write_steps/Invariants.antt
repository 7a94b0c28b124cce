use Rattle.std.proofs.Common.{◌≡◌, ◌++◌, List, ℕ, drop}
use Rattle.std.specs.List.{flat_map}
use Rattle.mx_audit.specs.EventLines.{step_text}
use Rattle.mx_audit.proofs.resolution_lines.write_steps.Given as goal

-- what was written, with the texts of those that are left, is the whole
abbrev pub invariant-loop-step : goal.invariant-loop-step
invariant-loop-step g l =
    (taken : List ℕ) → g.S.TextSink.has_taken l.initial.sink taken
    → (out : List ℕ) × g.S.TextSink.has_taken l.sink out
    × (out ++ flat_map (step_text l.timeline.kept l.order) (drop l.step-index l.steps) ≡ taken ++ flat_map (step_text l.timeline.kept l.order) l.steps)
