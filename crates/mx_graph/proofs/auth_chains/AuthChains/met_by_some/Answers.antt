use Rattle.std.proofs.Common.{◌||◌, ℕ, Vec, sym, subst, arith, rules}
use Rattle.std.specs.declared.alloc.Global.{Global}
use Rattle.mx_graph.specs.AuthChains.{has_row, kept_at, place_at, some_has, AreDistinct, AreFew, AreKept, AreMetToo}
use Rattle.mx_graph.proofs.ChainDifferenceLemmas.{sets-more}
use Rattle.mx_graph.proofs.ShortChainLemmas.{distinct-none, few-more}
use Rattle.mx_graph.proofs.auth_chains.AuthChains.met_by_some.Goals as goal

pub loop-others-preserved : goal.loop-others-preserved
loop-others-preserved c = record {
  met = sets-more (place_at c.args.self.now.places.items) (kept_at c.args.self.now.reached.items) c.args.apart.now c.loop-others.others-index c.others-item.result c.loop-others.met.items c.add_met.new.met.items c.loop-others-test.true
      c.others-item.is c.loop-others.invariant.met
      (subst (λ events. AreMetToo (place_at c.args.self.now.places.items) (kept_at c.args.self.now.reached.items) events c.loop-others.met.items c.add_met.new.met.items) c.deref.ensures.value
      (c.in_ok-add_met.ensures.met (let f = c.if-not-branch.false in grind (arith, f))));
  distinct = c.in_ok-add_met.ensures.distinct c.loop-others.invariant.distinct;
}

pub loop-others-init : goal.loop-others-init
loop-others-init c = record { met = search rules; distinct = subst AreDistinct (sym c.new-met.ensures.items) distinct-none }

pub returns-then-not-branch-clause-answers : goal.returns-then-not-branch-clause-answers
returns-then-not-branch-clause-answers c = λ all ends few.
    let at = place_at c.args.self.now.places.items in
    let kept = kept_at c.args.self.now.reached.items in
    let met = c.loop-others.met.items in
    let others : AreKept kept c.others-item.result.items = subst (λ (set : Vec ℕ Global). AreKept kept set.items) (sym c.others-item.is) (all c.loop-others.others-index c.others-item.result c.loop-others-test.true) in
    let done =
    c.in_ok-add_met.ensures.answers (subst (AreKept kept) (sym c.deref.ensures.value) others) ends (c.loop-others.invariant.met.ends ends) c.loop-others.invariant.distinct
    (subst (λ events. AreFew at (λ chain p. has_row met chain p || some_has kept events chain p)) (sym c.deref.ensures.value)
    (few-more at kept ends c.args.apart.now c.loop-others.others-index c.others-item.result met c.loop-others-test.true c.others-item.is c.loop-others.invariant.met few)) in
    let f = c.if-not-branch.true in
    grind (arith, f, done)
