use Rattle.std.proofs.Common.{◌≡◌, ◌+◌, ℕ, List, ap, ◌∙◌, filter_map, take}
use Rattle.std.specs.Prelude.{min}
use Rattle.mx_canon.specs.Canonical.{largest}
use Rattle.mx_graph.specs.Depths.{greatest_depth}
use Rattle.mx_orders.specs.Mainline.{sorted}
use Rattle.mx_graph.specs.StateMap.{entry}
use Rattle.mx_receipt.specs.Receipt.{current_state, rows_of}
use Rattle.mx_room.specs.Answers.{join_keys}
use Rattle.mx_room.specs.Queries.{depth_falling, ids_of, join_event, join_prev_events}
use Rattle.mx_room.proofs.JoinLemmas.{template-is}
use Rattle.mx_room.proofs.queries.join_templates.join_template.Goals as goal

pub returns : goal.returns
returns c =
    let kept = c.args.timeline.now.kept in
    let rows = rows_of kept in
    let prev : c.in_ok-prev.prev.items ≡ join_prev_events kept =
    c.in_ok-prev.ensures.order ∙ ap (λ (xs : List ℕ). take 20 (sorted (depth_falling rows) xs)) c.extremities.ensures.forward in
    let auth_ids : c.as_slice.result.now ≡ ids_of rows (filter_map (entry (current_state kept)) (join_keys c.args.user.now)) =
    c.as_slice.ensures ∙ c.in_ok-auth_ids.ensures
    ∙ ap (ids_of rows) (c.deref-2.ensures.value ∙ c.in_ok-auth.ensures.events
    ∙ ap (λ (u : List ℕ). filter_map (entry (current_state kept)) (join_keys u)) c.as_str.ensures.text) in
    let prev_ids : c.as_slice-2.result.now ≡ ids_of rows (join_prev_events kept) =
    c.as_slice-2.ensures ∙ c.in_ok-prev_ids.ensures ∙ ap (ids_of rows) (c.deref-3.ensures.value ∙ prev) in
    let depth : c.depth_after-depth.result ≡ min (greatest_depth rows (join_prev_events kept) + 1) largest =
    c.depth_after-depth.ensures ∙ ap (λ (xs : List ℕ). min (greatest_depth rows xs + 1) largest) (c.deref.ensures.value ∙ prev) in
    c.in_ok-event.ensures
    ∙ (λ i. join_event (auth_ids i) (prev_ids i) (depth i) (c.milliseconds.ensures.same i) (c.as_str-2.ensures.text i) (c.as_str-3.ensures.text i))
    ∙ template-is kept c.args.now c.args.room.now c.args.user.now
