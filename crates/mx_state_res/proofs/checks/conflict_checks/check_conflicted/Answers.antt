use Rattle.std.proofs.Common.{◌<◌, length, not, filter, sym, ap, subst, ◌∙◌}
use Rattle.std.specs.List.{All}
use Rattle.mx_graph.specs.Record.{is_in}
use Rattle.mx_orders.specs.Lists.{Distinct}
use Rattle.mx_orders.specs.PowerOrder.{power_order}
use Rattle.mx_orders.specs.Mainline.{mainline, mainline_order}
use Rattle.mx_state_res.specs.Numbered.{shown_by}
use Rattle.mx_state_res.specs.Resolution.{iterative_auth_checks}
use Rattle.mx_state_res.proofs.SetLemmas.{rises-distinct}
use Rattle.mx_state_res.proofs.OrderLemmas.{checked-is, filter-all, power_order-known, mainline_order-known}
use Rattle.mx_state_res.proofs.checks.conflict_checks.check_conflicted.Goals as goal

pub power_order-requires-clause-distinct : goal.power_order-requires-clause-distinct
power_order-requires-clause-distinct c = subst Distinct (sym c.deref-2.ensures.value) (rises-distinct c.in_ok-power.power.items c.in_ok-power.ensures.rises)

pub check_each-requires-clause-events : goal.check_each-requires-clause-events
check_each-requires-clause-events c =
    subst (All (λ p. p < length c.args.graph.now)) (sym (c.deref-3.ensures.value ∙ c.in_ok-order.ensures ∙ ap (power_order c.args.graph.now) c.deref-2.ensures.value))
    (power_order-known c.args.graph.now c.in_ok-power.power.items (rises-distinct c.in_ok-power.power.items c.in_ok-power.ensures.rises) c.in_ok-power.ensures.known)

pub mainline_order-requires : goal.mainline_order-requires
mainline_order-requires c =
    subst (All (λ p. p < length c.args.graph.now)) (sym (c.deref-4.ensures.value ∙ c.in_ok-others.ensures))
    (filter-all (λ p. p < length c.args.graph.now) (λ p. not (is_in c.deref.result.now p)) c.args.full.now c.requires.full)

pub check_each-requires-2-clause-events : goal.check_each-requires-2-clause-events
check_each-requires-2-clause-events c =
    subst (All (λ p. p < length c.args.graph.now)) (sym (c.deref-5.ensures.value ∙ c.in_ok-rest.ensures))
    (mainline_order-known c.args.graph.now (mainline c.args.graph.now c.get-power_levels.result) c.deref-4.result.now
    (subst (All (λ p. p < length c.args.graph.now)) (sym (c.deref-4.ensures.value ∙ c.in_ok-others.ensures))
    (filter-all (λ p. p < length c.args.graph.now) (λ p. not (is_in c.deref.result.now p)) c.args.full.now c.requires.full)))

pub returns-clause-checked : goal.returns-clause-checked
returns-clause-checked c =
    let rows = c.args.graph.now in
    let partial = shown_by c.check_each.new.state in
    checked-is c.args.version rows (shown_by c.args.state.now) c.args.full.now c.in_ok-power.power.items c.in_ok-others.others.items c.in_ok-order.order.items
    partial (mainline rows c.get-power_levels.result) c.in_ok-rest.rest.items (shown_by c.check_each-2.new.state)
    c.in_ok-power.ensures.set
    (c.in_ok-others.ensures ∙ ap (λ xs. filter (λ p. not (is_in xs p)) c.args.full.now) c.deref.ensures.value)
    (c.in_ok-order.ensures ∙ ap (power_order rows) c.deref-2.ensures.value)
    (c.in_ok-check_each.ensures.ok ∙ ap (iterative_auth_checks c.args.version rows (shown_by c.args.state.now)) c.deref-3.ensures.value)
    (ap (mainline rows) c.get-power_levels.ensures)
    (c.in_ok-rest.ensures ∙ ap (mainline_order rows (mainline rows c.get-power_levels.result)) c.deref-4.ensures.value)
    (c.in_ok-check_each-2.ensures.ok ∙ ap (iterative_auth_checks c.args.version rows partial) c.deref-5.ensures.value)
