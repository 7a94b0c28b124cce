use Rattle.std.proofs.Common.{◌≡◌, ◌++◌, ◌≤◌, ◌-◌, List, ℕ, take, drop, flat_map}
use Rattle.mx_canon.specs.Canonical.{escaped}
use Rattle.mx_canon.proofs.RunLemmas.{IsPlain}
use Rattle.mx_canon.proofs.streaming.write_runs.Given as goal

-- what was written up to the start of the run, and the run
abbrev pub invariant-loop-index : goal.invariant-loop-index
invariant-loop-index g l =
    (l.start ≤ l.index) × IsPlain (take (l.index - l.start) (drop l.start l.text))
    × ((taken : List ℕ) → g.S.TextSink.has_taken l.initial.sink taken
    → (out : List ℕ) × g.S.TextSink.has_taken l.sink out × (out ++ flat_map escaped (drop l.start l.text) ≡ taken ++ flat_map escaped l.text))
