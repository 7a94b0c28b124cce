use Rattle.std.proofs.Common.{◌∙◌}
use Rattle.mx_states.proofs.KeyOrderLemmas.{events-in_order}
use Rattle.mx_states.proofs.states.numbered_entries.events_in_order.Goals as goal

pub returns : goal.returns
returns c = c.in_ok-events.ensures ∙ events-in_order c.args.keys.now c.args.entries.now c.in_order.result.now c.requires.distinct c.requires.below c.in_order.ensures
