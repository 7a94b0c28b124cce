use Rattle.std.proofs.Common.{◌++◌, ◌∷◌, [], filter, not, ap, ◌∙◌}
use Rattle.mx_graph.specs.Record.{is_in}
use Rattle.mx_receipt.proofs.PastLemmas.{next-is}
use Rattle.mx_receipt.proofs.covering.next_extremities.Goals as goal

pub returns-clause-next : goal.returns-clause-next
returns-clause-next c =
    next-is c.args.graph.now c.args.judgements.now c.args.extremities.now c.args.prev_events.now c.graph_is_sound.ensures (is_in c.in_ok-covered.covered.items) c.in_ok-covered.ensures c.requires.past
    c.args.number c.push.new.self.items
    (c.in_ok-push.ensures.items ∙ ap (λ xs. xs ++ c.args.number ∷ [])
    (c.remove_events.ensures ∙ (λ i. filter (λ p. not (is_in (c.deref.ensures.value i) p)) (c.in_ok-next.ensures.items i))))

pub returns-clause-replaced : goal.returns-clause-replaced
returns-clause-replaced c =
    c.in_ok-push.ensures.items ∙ ap (λ xs. xs ++ c.args.number ∷ [])
    (c.remove_events.ensures ∙ (λ i. filter (λ p. not (is_in (c.deref.ensures.value i) p)) (c.in_ok-next.ensures.items i)))
