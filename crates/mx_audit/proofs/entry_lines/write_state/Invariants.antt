use Rattle.std.proofs.Common.{◌≡◌, ◌++◌, List, ℕ, drop}
use Rattle.std.specs.List.{flat_map}
use Rattle.mx_audit.specs.EventLines.{state_line}
use Rattle.mx_audit.proofs.entry_lines.write_state.Given as goal

-- what was written, with the texts of those that are left, is the whole
abbrev pub invariant-loop-entry : goal.invariant-loop-entry
invariant-loop-entry g l =
    (taken : List ℕ) → g.S.TextSink.has_taken l.initial.sink taken
    → (out : List ℕ) × g.S.TextSink.has_taken l.sink out
    × (out ++ flat_map (state_line l.timeline.kept) (drop l.entry-index l.entries) ≡ taken ++ flat_map (state_line l.timeline.kept) l.entries)
