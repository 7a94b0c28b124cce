use Rattle.std.proofs.Common.{◌≡◌, ◌<◌, ◌||◌, ℕ, true, length}
use Rattle.mx_graph.specs.Record.{is_in}
use Rattle.mx_state_res.specs.ChainDifference.{cites, is_cited}
use Rattle.mx_state_res.specs.Masks.{is_due, is_there, AreKept}
use Rattle.mx_state_res.proofs.chains.chain_difference.mark_starts.Given as goal

-- the starts that were taken are marked
abbrev pub invariant-loop-start : goal.invariant-loop-start
invariant-loop-start l = record {
  states : l.walk.states ≡ l.fn.walk.states;
  kept : AreKept l.walk.states l.walk.masks l.walk.unsettled;
  fewer : (s : ℕ) → is_in l.walk.starts.keys s ≡ true → is_in l.fn.walk.starts.keys s ≡ true;
  there : (p : ℕ) → (is_there l.walk.masks p || is_cited l.graph l.walk.starts.keys p) ≡ (is_there l.fn.walk.masks p || is_cited l.graph l.fn.walk.starts.keys p);
  due : (p i : ℕ) → i < l.fn.walk.states → is_due (cites l.graph) l.walk.masks l.walk.starts.keys p i ≡ is_due (cites l.graph) l.fn.walk.masks l.fn.walk.starts.keys p i;
}

abbrev pub decreases-loop-start : goal.decreases-loop-start
decreases-loop-start l = length l.walk.starts.keys
