use Rattle.std.proofs.Common.{rules, sym, ◌∙◌}
use Rattle.mx_orders.proofs.MainlineLemmas.{position-here, position-later, position-none}
use Rattle.mx_orders.proofs.mainlines.Mainline.position.Goals as goal

pub returns-in-Some-place_in_line : goal.returns-in-Some-place_in_line
returns-in-Some-place_in_line c =
    sym (position-here c.args.graph.now c.power_levels_event.ensures.sound c.args.self.now c.loop-power.above c.in-Some.power c.in-Some-place_in_line.place (search rules) (search rules)) ∙ c.loop-power.invariant

pub loop-power-preserved : goal.loop-power-preserved
loop-power-preserved c = sym (position-later c.args.graph.now c.power_levels_event.ensures.sound c.args.self.now c.loop-power.above c.in-Some.power (search rules) (search rules)) ∙ c.loop-power.invariant

pub returns : goal.returns
returns c = sym (position-none c.args.graph.now c.power_levels_event.ensures.sound c.args.self.now c.loop-power.above (search rules)) ∙ c.loop-power.invariant
