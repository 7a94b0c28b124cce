use Rattle.std.proofs.Common.{◌≡◌, ◌+◌, ◌-◌, ◌/◌, ◌<◌, ◌||◌, ◌==◌, true, false, length, slice_index_or, ap, subst, sym, ◌∙◌, arith}
use Rattle.std.proofs.lemmas.List.{length-map}
use Rattle.std.specs.Ordering.{is_gt}
use Rattle.mx_orders.specs.Mainline.{mainline, mainline_cmp}
use Rattle.mx_orders.proofs.PlaceLemmas.{mainline_cmp-total}
use Rattle.mx_state_res.specs.KeptResolutions.{events_checked}
use Rattle.mx_state_res.specs.declared.kept_resolutions.checked_events.CheckedEvent.{CheckedEvent}
use Rattle.mx_state_res.proofs.KeptResolutionLemmas.{event-at, not-false, other-at, placed-is}
use Rattle.mx_state_res.proofs.kept_resolutions.added_places.place_of.Goals as goal

pub loop-low-preserved : goal.loop-low-preserved
loop-low-preserved c =
    let rows = c.args.graph.now in
    let cmp = mainline_cmp rows (mainline rows c.args.power.now) in
    let order = c.args.order.now in
    let x = c.args.event in
    let middle = c.loop-low.low + (c.loop-low.high - c.loop-low.low) / 2 in
    let item = c.index-order-middle.result in
    let h = c.loop-low.invariant in
    let inside : middle < length order = omega arith in
    let there : slice_index_or (events_checked order) middle 0 ≡ (slice_index_or order middle item).event = event-at order middle item inside in
    let other = (slice_index_or order middle item).event in
    let after : is_gt (cmp x other) ≡ true =
    not-false (is_gt (cmp x other)) (sym (c.in_ok-is_first.ensures (ap (λ b. b || false) (ap (λ n. n == x) (sym there) ∙ other-at (events_checked order) middle x (let e = length-map order (λ (q : CheckedEvent). q.event) in omega arith) c.requires.new))) ∙ c.if-is_first.false) in
    record {
      within = omega arith;
      below = h.below;
      before = λ k e. subst (λ n. is_gt (cmp x (slice_index_or (events_checked order) n 0)) ≡ true) (omega arith) (ap (λ n. is_gt (cmp x n)) there ∙ after);
      behind = h.behind;
    }

pub returns-clause-placed : goal.returns-clause-placed
returns-clause-placed c =
    let rows = c.args.graph.now in
    let line = mainline rows c.args.power.now in
    let events = events_checked c.args.order.now in
    let h = c.loop-low.invariant in
    let e : length events ≡ length c.args.order.now = length-map c.args.order.now (λ (q : CheckedEvent). q.event) in
    placed-is (mainline_cmp rows line) (mainline_cmp-total rows line) c.args.event events c.loop-low.low c.requires.order (omega arith) h.before
    (λ l. subst (λ n. is_gt (mainline_cmp rows line c.args.event (slice_index_or events n 0)) ≡ false) (omega arith) (h.behind (omega arith)))
