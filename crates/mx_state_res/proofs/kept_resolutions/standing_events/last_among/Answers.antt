use Rattle.std.proofs.Common.{◌≡◌, ◌<◌, ◌+◌, ◌-◌, None, drop, length, subst, sym, ◌∙◌, arith}
use Rattle.mx_pdu.specs.StateKeys.{Key}
use Rattle.mx_state_res.specs.TouchedKeys.{last_put}
use Rattle.mx_state_res.proofs.StandingLemmas.{last-further, last-here}
use Rattle.mx_state_res.proofs.kept_resolutions.standing_events.last_among.Goals as goal

pub loop-left-preserved : goal.loop-left-preserved
loop-left-preserved c =
    let rows = c.args.graph.now in
    let key : Key = (c.args.kind.now, c.args.state_key.now) in
    let order = c.args.order.now in
    let p = c.loop-left.left - 1 in
    let item = c.index-order-left.result in
    let inside : p < length order = (let w = c.loop-left.invariant.within in let t = c.loop-left-test.true in omega arith) in
    let next : c.loop-left.left ≡ p + 1 = omega arith in
    record {
      within = (let w = c.loop-left.invariant.within in omega arith);
      none = last-further rows key order p item item inside c.index-order-left.is (subst (λ n. last_put rows key (drop n order) ≡ None) next c.loop-left.invariant.none) (sym c.is_put_at.ensures ∙ c.if-is_put_at.false);
    }

pub returns-then-is_put_at-clause-last : goal.returns-then-is_put_at-clause-last
returns-then-is_put_at-clause-last c =
    let rows = c.args.graph.now in
    let key : Key = (c.args.kind.now, c.args.state_key.now) in
    let order = c.args.order.now in
    let p = c.loop-left.left - 1 in
    let item = c.index-order-left.result in
    let inside : p < length order = (let w = c.loop-left.invariant.within in omega arith) in
    let next : c.loop-left.left ≡ p + 1 = omega arith in
    last-here rows key order p item item inside c.index-order-left.is (subst (λ n. last_put rows key (drop n order) ≡ None) next c.loop-left.invariant.none) (sym c.is_put_at.ensures ∙ c.if-is_put_at.true)
