use Rattle.std.proofs.Common.{rules, ◌≡◌, ◌==◌, ◌<◌, IfSome, inl, inr, position, None, refl, sym, ap, subst, ◌∙◌}
use Rattle.mx_orders.specs.MainlineWalk.{whole}
use Rattle.mx_orders.specs.Ties.{position_on}
use Rattle.mx_orders.proofs.MainlineLemmas.{position-here, position-later, position_on-is}
use Rattle.mx_orders.proofs.TieLemmas.{place-small, place-before}
use Rattle.mx_orders.proofs.tied_positions.place_of.Goals as goal

pub returns-then-eq-clause-place : goal.returns-then-eq-clause-place
returns-then-eq-clause-place c =
    let all = whole c.args.graph.now c.args.walk.now in
    let same : c.in-Some.power ≡ c.args.oldest = search rules in
    inr (record {
      last = refl;
      position =
          sym c.loop-power.invariant.position ∙ position_on-is c.args.graph.now c.in-Some.ensures.sound all c.loop-power.above c.in-Some.power (sym c.in-Some.ensures.first)
          ∙ ap (position_on c.args.graph.now all) same;
    })

pub returns-in-Some-place_so_far-clause-place : goal.returns-in-Some-place_so_far-clause-place
returns-in-Some-place_so_far-clause-place c =
    let rows = c.args.graph.now in
    let all = whole rows c.args.walk.now in
    let followed = c.follow.new.self in
    let same = c.in_ok-follow.ensures.whole ∙ c.loop-power.invariant.same in
    let at = sym c.place_so_far.ensures ∙ c.in-Some-place_so_far.is in
    let above : c.args.oldest < c.in-Some.power = search rules in
    let walk = c.in_ok-follow.ensures.walk in
    inl (record {
      position =
          sym c.loop-power.invariant.position
          ∙ position-here rows c.in-Some.ensures.sound all c.loop-power.above c.in-Some.power c.in-Some-place_so_far.place (sym c.in-Some.ensures.first) (ap (position (λ other. other == c.in-Some.power)) (sym same) ∙ at);
      small = place-small rows c.in-Some.ensures.sound followed.line.items followed.next c.in-Some.power c.args.oldest c.in-Some-place_so_far.place walk.falls walk.few c.in_ok-follow.ensures.followed above at;
      before =
          subst (λ line. IfSome (position_on rows line c.args.oldest) (λ other. c.in-Some-place_so_far.place < other)) same
          (place-before rows c.in-Some.ensures.sound followed.line.items followed.next c.in-Some.power c.args.oldest c.in-Some-place_so_far.place walk.falls walk.few c.in_ok-follow.ensures.followed above at);
    })

pub loop-power-preserved : goal.loop-power-preserved
loop-power-preserved c =
    let all = whole c.args.graph.now c.args.walk.now in
    let none : c.place_so_far.result ≡ None = search rules in
    let at = sym none ∙ c.place_so_far.ensures ∙ ap (position (λ other. other == c.in-Some.power)) (c.in_ok-follow.ensures.whole ∙ c.loop-power.invariant.same) in
    record {
      walk = c.in_ok-follow.ensures.walk;
      same = c.in_ok-follow.ensures.whole ∙ c.loop-power.invariant.same;
      position = sym (position-later c.args.graph.now c.in-Some.ensures.sound all c.loop-power.above c.in-Some.power (sym c.in-Some.ensures.first) (sym at)) ∙ c.loop-power.invariant.position;
    }
