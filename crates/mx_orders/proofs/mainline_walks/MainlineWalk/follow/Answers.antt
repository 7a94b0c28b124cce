use Rattle.mx_orders.proofs.MainlineLemmas.{mainline_more, fewer}
use Rattle.mx_orders.proofs.FallingLemmas.{falls-more, below-more}
use Rattle.mx_orders.proofs.mainline_walks.MainlineWalk.follow.Goals as goal

pub loop-self-preserved : goal.loop-self-preserved
loop-self-preserved c =
    let before = c.loop-self.invariant.walk in
    let line = c.loop-self.self.line.items in
    let longer = c.push.new.self.items in
    let now = c.loop-self.self.next in
    let next = c.power_levels_event-self.result in
    let step = c.power_levels_event-self.ensures in
    record {
      walk = record {
        falls = falls-more line longer now next c.in-Some.next c.in-Some.is c.in_ok-push.ensures.items step.earlier before.falls before.below;
        below = below-more line longer now next c.in-Some.next c.in-Some.is c.in_ok-push.ensures.items step.earlier before.falls before.below;
        few = fewer c.args.graph.now line longer now next c.in-Some.next c.in-Some.is c.in_ok-push.ensures.items step.earlier step.known step.few before.few;
      };
      same = mainline_more c.args.graph.now step.sound _ line longer now next c.in-Some.next c.in-Some.is step.first c.in_ok-push.ensures.items c.loop-self.invariant.same;
    }
