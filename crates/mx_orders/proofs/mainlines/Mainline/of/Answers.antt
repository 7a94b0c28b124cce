use Rattle.std.proofs.Common.{rules}
use Rattle.mx_orders.proofs.MainlineLemmas.{mainline_more, fewer, mainline_done}
use Rattle.mx_orders.proofs.FallingLemmas.{falls-more, below-more}
use Rattle.mx_orders.proofs.mainlines.Mainline.of.Goals as goal

pub loop-next-preserved : goal.loop-next-preserved
loop-next-preserved c = record {
  so_far = mainline_more c.args.graph.now c.power_levels_event-next.ensures.sound _ c.loop-next.line.items _ c.loop-next.next _ c.in-Some.event c.in-Some.is c.power_levels_event-next.ensures.first c.in_ok-push.ensures.items c.loop-next.invariant.so_far;
  falls = falls-more c.loop-next.line.items c.push.new.self.items c.loop-next.next c.power_levels_event-next.result c.in-Some.event c.in-Some.is c.in_ok-push.ensures.items c.power_levels_event-next.ensures.earlier c.loop-next.invariant.falls c.loop-next.invariant.below;
  below = below-more c.loop-next.line.items c.push.new.self.items c.loop-next.next c.power_levels_event-next.result c.in-Some.event c.in-Some.is c.in_ok-push.ensures.items c.power_levels_event-next.ensures.earlier c.loop-next.invariant.falls c.loop-next.invariant.below;
  few = fewer c.args.graph.now c.loop-next.line.items c.push.new.self.items c.loop-next.next c.power_levels_event-next.result c.in-Some.event c.in-Some.is c.in_ok-push.ensures.items c.power_levels_event-next.ensures.earlier c.power_levels_event-next.ensures.known c.power_levels_event-next.ensures.few c.loop-next.invariant.few;
}

pub returns : goal.returns
returns c = mainline_done c.args.graph.now c.loop-next.line.items c.loop-next.next _ (search rules) c.loop-next.invariant.so_far
