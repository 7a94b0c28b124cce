use Rattle.std.proofs.Common.{◌≡◌, ◌||◌, ℕ, take}
use Rattle.mx_graph.specs.AuthChains.{has_row, AreDistinct, AreEnds}
use Rattle.mx_graph.specs.declared.auth_chains.ChainPlace.{ChainPlace}
use Rattle.mx_graph.proofs.reached_rows.add_rows.Given as goal

-- those so far are added
abbrev pub invariant-loop-other : goal.invariant-loop-other
invariant-loop-other l = record {
  rows : (chain p : ℕ) → has_row l.reached.items chain p ≡ (has_row l.fn.reached.items chain p || has_row (take l.other-index l.others) chain p);
  ends : (at : ℕ → ChainPlace) → AreEnds at l.fn.reached.items → AreEnds at l.others → AreEnds at l.reached.items;
  distinct : AreDistinct l.fn.reached.items → AreDistinct l.reached.items;
}
