use Rattle.std.proofs.Common.{◌≡◌, ◌++◌}
use Rattle.mx_states.proofs.states.number_sets.list_of.Given as goal

-- the numbers so far, and those that are left, are all
abbrev pub invariant-loop-number : goal.invariant-loop-number
invariant-loop-number l = l.found.items ++ l.number-iterator ≡ l.set.keys
