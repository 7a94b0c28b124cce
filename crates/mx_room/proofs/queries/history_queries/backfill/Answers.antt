use Rattle.std.proofs.Common.{◌≡◌, ℕ, List, [], Option, Vec, refl, subst, ◌∙◌, take}
use Rattle.std.specs.Prelude.{IfSome}
use Rattle.std.specs.declared.alloc.Global.{Global}
use Rattle.mx_orders.specs.Mainline.{sorted}
use Rattle.mx_receipt.specs.Receipt.{rows_of}
use Rattle.mx_room.specs.HistoryWalks.{sought_between}
use Rattle.mx_room.specs.Queries.{depth_falling}
use Rattle.mx_room.specs.declared.queries.history_walks.Sought.{Sought}
use Rattle.mx_room.proofs.HistoryQueryLemmas.{backfill-walked}
use Rattle.mx_room.proofs.queries.history_queries.backfill.Goals as goal

pub returns-clause-events : goal.returns-clause-events
returns-clause-events c =
    let rows = rows_of c.args.timeline.now.kept in
    let most = c.min-most.result in
    let sought : Sought = record { skipped = c.new.result; min_depth = 0 } in
    let deepest = λ (events : List ℕ). take most (sorted (depth_falling rows) events) in
    c.in_ok-events-2.ensures.order ∙ (λ i. take most (sorted (depth_falling rows) (c.deref-2.ensures.value i)))
    ∙ backfill-walked rows c.timeline_depths_hold.ensures.sound c.args.from.now c.args.limit most c.deref.result.now [] c.in-Some.found.items sought
    (c.deref.ensures.value ∙ c.in_ok-starts.ensures.numbers) refl c.min-most.ensures c.new.ensures.empty refl
    (subst (λ (found : Option (Vec ℕ Global)). IfSome found (λ events. deepest events.items ≡ deepest (sought_between rows c.deref.result.now [] sought))) c.in-Some.is c.in_ok-found.ensures.deepest)
