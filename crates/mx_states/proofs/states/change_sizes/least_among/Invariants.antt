use Rattle.std.proofs.Common.{◌≡◌, ◌≤◌, ◌∷◌, take}
use Rattle.std.specs.List.{All, Contains}
use Rattle.mx_states.specs.ChangedKeys.{size_at}
use Rattle.mx_states.proofs.states.change_sizes.least_among.Given as goal

-- the least so far is one of them, and none so far is less
abbrev pub invariant-loop-number : goal.invariant-loop-number
invariant-loop-number l = record {
  found : Contains (l.fn.known ∷ l.others) l.least;
  size : l.size ≡ size_at l.edit.states.now l.edit.taken.now l.edit.puts.now l.least;
  least : All (λ number. l.size ≤ size_at l.edit.states.now l.edit.taken.now l.edit.puts.now number) (l.fn.known ∷ take l.number-index l.others);
}
