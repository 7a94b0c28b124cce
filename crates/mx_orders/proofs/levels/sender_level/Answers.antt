use Rattle.std.proofs.Common.{rules}
use Rattle.mx_orders.proofs.StateLemmas.{sender_level-at}
use Rattle.mx_orders.proofs.levels.sender_level.Goals as goal

pub returns-then-is_none : goal.returns-then-is_none
returns-then-is_none c =
    let at = sender_level-at c.args.graph.now c.args.number c.auth_event-create.result c.auth_event-power.result c.auth_event-create.ensures.first c.auth_event-power.ensures.first in
    search rules

pub returns : goal.returns
returns c =
    let at = sender_level-at c.args.graph.now c.args.number c.auth_event-create.result c.auth_event-power.result c.auth_event-create.ensures.first c.auth_event-power.ensures.first in
    search rules
