use Rattle.std.proofs.Common.{◌≡◌, ◌<◌, ℕ, true, length, reverse}
use Rattle.mx_graph.specs.Record.{is_in}
use Rattle.mx_state_res.specs.ChainDifference.{cites}
use Rattle.mx_state_res.specs.Masks.{is_due, is_there, AreKept, AreLow}
use Rattle.mx_state_res.proofs.WalkStepLemmas.{IsWalk, height}
use Rattle.mx_state_res.proofs.chains.chain_difference.taken_down.Given as goal

abbrev pub invariant-loop-taken : goal.invariant-loop-taken
invariant-loop-taken l = record {
  states : l.walk.states ≡ l.fn.walk.states;
  kept : AreKept l.walk.states l.walk.masks l.walk.unsettled;
  known : (p : ℕ) → is_there l.walk.masks p ≡ true → p < length l.graph;
  starts : (s : ℕ) → is_in l.walk.starts.keys s ≡ true → s < length l.graph;
  low : AreLow l.walk.masks l.walk.starts.keys;
  walk : IsWalk (cites l.graph) l.fn.walk.states (is_due (cites l.graph) l.fn.walk.masks l.fn.walk.starts.keys) l.walk.masks l.walk.starts.keys (reverse l.found.items);
}

abbrev pub decreases-loop-taken : goal.decreases-loop-taken
decreases-loop-taken l = height l.walk.masks
