use Rattle.std.proofs.Common.{◌<◌, ℕ, length, sym, ap, subst, ◌∙◌}
use Rattle.std.specs.List.{All}
use Rattle.mx_orders.specs.Mainline.{mainline}
use Rattle.mx_orders.proofs.LongerRecordLemmas.{mainline_order-events}
use Rattle.mx_state_res.specs.Numbered.{shown_by}
use Rattle.mx_states.specs.Numbered.{state_at, without}
use Rattle.mx_graph.proofs.Members.{In}
use Rattle.mx_state_res.proofs.FirstRecordLemmas.{all-events}
use Rattle.mx_state_res.proofs.ResolvingLemmas.{without-known}
use Rattle.mx_state_res.proofs.NumberedConflictLemmas.{known-one}
use Rattle.mx_state_res.proofs.SetLemmas.{all-at, all-of}
use Rattle.mx_state_res.proofs.kept_resolutions.first_records.order_checked.Goals as goal

pub checked_each-requires-clause-events : goal.checked_each-requires-clause-events
checked_each-requires-clause-events c =
    let rows = c.args.graph.now in
    subst (All (λ (p : ℕ). p < length rows)) (sym (c.deref.ensures.value ∙ c.in_ok-order.ensures))
    (all-of (λ (p : ℕ). p < length rows) _ (mainline_order-events rows (mainline rows c.get-power_levels.result) c.args.full.now (λ p m. all-at (λ (p : ℕ). p < length rows) c.args.full.now c.requires.full p m)))

pub checked_each-requires-clause-known : goal.checked_each-requires-clause-known
checked_each-requires-clause-known c =
    let n = length c.args.graph.now in
    subst (All (λ e. e.1 < n)) (sym (ap shown_by c.without-state.ensures ∙ ap (without c.args.differing.now) c.state.ensures))
    (without-known n c.args.differing.now (state_at c.args.states.now c.args.base) (known-one c.args.graph.now c.args.states.now c.args.base c.requires.known c.requires.base))

pub returns-clause-known : goal.returns-clause-known
returns-clause-known c =
    let n = length c.args.graph.now in
    let rows = c.args.graph.now in
    let P : ℕ → Type 0 = λ p. p < n in
    let known : All P c.deref.result.now = subst (All P) (sym (c.deref.ensures.value ∙ c.in_ok-order.ensures))
    (all-of P _ (mainline_order-events rows (mainline rows c.get-power_levels.result) c.args.full.now (λ p m. all-at P c.args.full.now c.requires.full p m))) in
    all-events P c.in_ok-order-2.order.items (λ p m. all-at P c.deref.result.now known p (subst (In p) c.in_ok-order-2.ensures.events m))
