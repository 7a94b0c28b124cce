use Rattle.std.proofs.Common.{length, sym, ap, ◌∙◌}
use Rattle.mx_graph.specs.Graph.{ancestors}
use Rattle.mx_receipt.specs.Receipt.{rows_of}
use Rattle.mx_room.proofs.AnswerLemmas.{marked-missing, marked-after_four}
use Rattle.mx_room.proofs.queries.plain_history.behind.Goals as goal

pub returns-clause-events : goal.returns-clause-events
returns-clause-events c =
    let kept = c.args.timeline.now.kept in
    let rows = rows_of kept in
    c.in_ok-events.ensures.events
    ∙ marked-missing kept c.args.earliest.now c.args.latest.now c.args.min_depth c.unmark-3.new.self c.deref-4.result.now c.deref-5.result.now c.deref-3.result.now c.deref-6.result.now
    (c.deref-4.ensures.value ∙ c.in_ok-ends.ensures.numbers)
    (c.deref-5.ensures.value ∙ c.in_ok-known.ensures.numbers)
    (c.deref-3.ensures.value ∙ c.in_ok-before.ensures.set ∙ ap (ancestors rows) (c.deref.ensures.value ∙ sym c.deref-4.ensures.value))
    (c.deref-6.ensures.value ∙ c.in_ok-before_known.ensures.set ∙ ap (ancestors rows) (c.deref-2.ensures.value ∙ sym c.deref-5.ensures.value))
    (marked-after_four (length kept) c.in_ok-marks.marks c.mark.new.self c.unmark.new.self c.unmark-2.new.self c.unmark-3.new.self
    c.deref-3.result.now c.deref-4.result.now c.deref-5.result.now c.deref-6.result.now
    (c.in_ok-marks.ensures.len ∙ c.len.ensures) c.in_ok-marks.ensures.none c.mark.ensures.marked c.unmark.ensures.marked c.unmark-2.ensures.marked c.unmark-3.ensures.marked)
