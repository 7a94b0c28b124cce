use Rattle.std.proofs.Common.{rules, ◌≡◌, ◌==◌, position, None, sym, ap, ◌∙◌}
use Rattle.mx_orders.specs.MainlineWalk.{whole}
use Rattle.mx_orders.proofs.MainlineLemmas.{position-here, position-later, position-none}
use Rattle.mx_orders.proofs.mainline_walks.MainlineWalk.position.Goals as goal

pub returns-in-Some-place_so_far-clause-position : goal.returns-in-Some-place_so_far-clause-position
returns-in-Some-place_so_far-clause-position c =
    let all = whole c.args.graph.now c.args.self.now in
    let at = c.in-Some-place_so_far.ensures ∙ ap (position (λ other. other == c.in-Some.power)) (c.in_ok-follow.ensures.whole ∙ c.loop-power.invariant.same) in
    sym (position-here c.args.graph.now c.in-Some.ensures.sound all c.loop-power.above c.in-Some.power c.in-Some-place_so_far.place (sym c.in-Some.ensures.first) (sym at)) ∙ c.loop-power.invariant.position

pub loop-power-preserved : goal.loop-power-preserved
loop-power-preserved c =
    let all = whole c.args.graph.now c.args.self.now in
    let none : c.place_so_far.result ≡ None = search rules in
    let at = sym none ∙ c.place_so_far.ensures ∙ ap (position (λ other. other == c.in-Some.power)) (c.in_ok-follow.ensures.whole ∙ c.loop-power.invariant.same) in
    record {
      walk = c.in_ok-follow.ensures.walk;
      same = c.in_ok-follow.ensures.whole ∙ c.loop-power.invariant.same;
      position = sym (position-later c.args.graph.now c.in-Some.ensures.sound all c.loop-power.above c.in-Some.power (sym c.in-Some.ensures.first) (sym at)) ∙ c.loop-power.invariant.position;
    }

pub returns-clause-position : goal.returns-clause-position
returns-clause-position c =
    let all = whole c.args.graph.now c.args.self.now in
    let none : c.power_levels_event.result ≡ None = search rules in
    sym (position-none c.args.graph.now c.power_levels_event.ensures.sound all c.loop-power.above (sym c.power_levels_event.ensures.first ∙ none)) ∙ c.loop-power.invariant.position
