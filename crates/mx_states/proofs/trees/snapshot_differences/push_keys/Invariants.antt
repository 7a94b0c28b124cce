use Rattle.std.proofs.Common.{◌≡◌, ◌++◌, drop}
use Rattle.std.specs.Map.{keys_of}
use Rattle.mx_states.proofs.trees.snapshot_differences.push_keys.Given as goal

abbrev pub invariant-loop-entry : goal.invariant-loop-entry
invariant-loop-entry g l = l.keys.items ++ keys_of (drop l.entry-index l.entries) ≡ l.initial.keys.items ++ keys_of l.entries
