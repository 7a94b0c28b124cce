use Rattle.std.proofs.Common.{◌||◌, ℕ, Bool, take, sym, ap, ◌∙◌}
use Rattle.std.proofs.lemmas.List.Folds.{list_any_more}
use Rattle.std.specs.Prelude.{◌==◌, ◌&&◌, nat_le}
use Rattle.mx_graph.specs.AuthChains.{has_row}
use Rattle.mx_graph.specs.declared.reached_rows.Reached.{Reached}
use Rattle.mx_graph.proofs.ReachedRowLemmas.{or-shifted}
use Rattle.mx_graph.proofs.reached_rows.add_rows.Goals as goal

pub loop-other-preserved : goal.loop-other-preserved
loop-other-preserved c = record {
  rows = λ chain p.
      c.in_ok-add_row.ensures.rows chain p ∙ ap (λ b. b || test chain p c.other-item.result) (c.loop-other.invariant.rows chain p)
      ∙ sym (or-shifted (has_row c.args.reached.now.items chain p) (has_row (take c.loop-other.other-index c.args.others.now) chain p) (test chain p c.other-item.result))
      ∙ ap (λ b. has_row c.args.reached.now.items chain p || b)
      (ap (λ r. has_row (take c.loop-other.other-index c.args.others.now) chain p || test chain p r) c.other-item.is ∙ sym (list_any_more (test chain p) c.args.others.now c.loop-other.other-index c.other-item.result c.loop-other-test.true));
  ends = λ at old others. c.in_ok-add_row.ensures.ends at (c.loop-other.invariant.ends at old others)
      (ap (λ (r : Reached). (at r.last).chain) c.other-item.is ∙ others c.loop-other.other-index c.other-item.result c.loop-other-test.true ∙ ap (λ (r : Reached). r.chain) (sym c.other-item.is));
  distinct = λ old. c.in_ok-add_row.ensures.distinct (c.loop-other.invariant.distinct old);
}
  where
    test : ℕ → ℕ → Reached → Bool
    test chain p r = (r.chain == chain) && nat_le p r.last
