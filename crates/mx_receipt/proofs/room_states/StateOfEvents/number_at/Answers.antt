use Rattle.std.proofs.Common.{ap, sym, ◌∙◌}
use Rattle.mx_graph.specs.StateMap.{entry}
use Rattle.mx_orders.specs.StateMap.{state_of}
use Rattle.mx_orders.proofs.StateLemmas.{entry-state_of}
use Rattle.mx_receipt.proofs.room_states.StateOfEvents.number_at.Goals as goal

pub returns-clause-number : goal.returns-clause-number
returns-clause-number c =
    c.first_at.ensures.first ∙ sym (entry-state_of c.self.inside.graph.now c.self.inside.events.now (c.args.kind.now, c.args.key.now))
    ∙ ap (λ s. entry (state_of s.0 s.1) (c.args.kind.now, c.args.key.now)) c.self.view_is
