use Rattle.std.proofs.Common.{◌≡◌, ℕ, List, Option, Vec, flat_map, refl, ap, subst, ◌∙◌, take}
use Rattle.std.specs.Prelude.{IfSome}
use Rattle.std.specs.declared.alloc.Global.{Global}
use Rattle.mx_graph.specs.Record.{event, is_in, prev_events}
use Rattle.mx_orders.specs.Mainline.{sorted}
use Rattle.mx_receipt.specs.Receipt.{rows_of}
use Rattle.mx_room.specs.HistoryWalks.{sought_between}
use Rattle.mx_room.specs.Queries.{depth_falling, depth_rising}
use Rattle.mx_room.specs.declared.queries.history_walks.Sought.{Sought}
use Rattle.mx_room.proofs.HistoryQueryLemmas.{missing-walked}
use Rattle.mx_room.proofs.queries.history_queries.missing_events.Goals as goal

pub returns-clause-events : goal.returns-clause-events
returns-clause-events c =
    let rows = rows_of c.args.timeline.now.kept in
    let most = c.min-most.result in
    let sought : Sought = record { skipped = c.in_ok-skipped.skipped; min_depth = c.args.min_depth } in
    let deepest = λ (events : List ℕ). take most (sorted (depth_falling rows) events) in
    c.in_ok-events-2.ensures.order
    ∙ ap (sorted (depth_rising rows)) (c.deref-6.ensures.value ∙ c.in_ok-deep.ensures.order ∙ λ i. take most (sorted (depth_falling rows) (c.deref-5.ensures.value i)))
    ∙ missing-walked rows c.timeline_depths_hold.ensures.sound c.args.earliest.now c.args.latest.now c.args.limit c.args.min_depth most c.in_ok-ends.ends.items c.deref-4.result.now c.deref-3.result.now
    c.in-Some.found.items sought c.in_ok-ends.ensures.numbers (c.deref-4.ensures.value ∙ c.in_ok-known.ensures.numbers)
    (c.deref-3.ensures.value ∙ c.in_ok-starts.ensures.events ∙ ap (flat_map (λ p. prev_events rows (event rows p))) c.deref.ensures.value) c.min-most.ensures
    (λ p. c.in_ok-skipped.ensures p ∙ ap (λ l. is_in l p) c.deref-2.ensures.value) refl
    (subst (λ (found : Option (Vec ℕ Global)). IfSome found (λ events. deepest events.items ≡ deepest (sought_between rows c.deref-3.result.now c.deref-4.result.now sought))) c.in-Some.is c.in_ok-found.ensures.deepest)
