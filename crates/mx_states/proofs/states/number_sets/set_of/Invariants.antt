use Rattle.std.proofs.Common.{◌≡◌, ℕ, IfSome, take, true}
use Rattle.std.specs.Ordering.{nat_cmp}
use Rattle.std.specs.BTreeSet.{contains}
use Rattle.mx_graph.specs.Record.{is_in}
use Rattle.mx_states.proofs.states.number_sets.set_of.Given as goal

-- the numbers so far, the last one too
abbrev pub invariant-loop-number : goal.invariant-loop-number
invariant-loop-number l = record {
  so_far : (n : ℕ) → contains nat_cmp l.set n ≡ is_in (take l.number-index l.numbers) n;
  last : IfSome l.last (λ k. contains nat_cmp l.set k ≡ true);
}
