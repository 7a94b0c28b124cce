use Rattle.std.proofs.Common.{◌≡◌, ◌<◌, ℕ, List, Option, length, not, filter, sym, ap, ap₂, subst, ◌∙◌, rules}
use Rattle.std.specs.List.{All}
use Rattle.mx_graph.specs.Record.{is_in}
use Rattle.mx_orders.specs.Lists.{Distinct}
use Rattle.mx_graph.specs.StateMap.{State, entry}
use Rattle.mx_orders.specs.PowerOrder.{power_order}
use Rattle.mx_orders.specs.Mainline.{power_key, mainline, mainline_order}
use Rattle.mx_state_res.specs.Resolution.{unconflicted, full_conflicted, power_events, iterative_auth_checks}
use Rattle.mx_state_res.proofs.SetLemmas.{rises-distinct, shown}
use Rattle.mx_state_res.proofs.OrderLemmas.{filter-all, power_order-known, mainline_order-known, unconflicted-known}
use Rattle.mx_audit.specs.Steps.{check_steps, power_list, partial_state, other_list, power_steps, other_steps}
use Rattle.mx_audit.proofs.StepLemmas.{conflicted-is}
use Rattle.mx_audit.proofs.steps.resolution_steps.Goals as goal

pub power_order-requires-clause-distinct : goal.power_order-requires-clause-distinct
power_order-requires-clause-distinct c = subst Distinct (sym c.deref-2.ensures.value) (rises-distinct c.in_ok-power_set.power_set.items c.in_ok-power_set.ensures.rises)

pub checked-requires-clause-events : goal.checked-requires-clause-events
checked-requires-clause-events c =
    subst (All (λ p. p < length c.args.graph.now)) (sym (c.deref-3.ensures.value ∙ c.in_ok-order.ensures ∙ ap (power_order c.args.graph.now) c.deref-2.ensures.value))
    (power_order-known c.args.graph.now c.in_ok-power_set.power_set.items (rises-distinct c.in_ok-power_set.power_set.items c.in_ok-power_set.ensures.rises) c.in_ok-power_set.ensures.known)

pub checked-requires-clause-known : goal.checked-requires-clause-known
checked-requires-clause-known c =
    let copied : c.in_ok-state.state ≡ c.in_ok-agreed.agreed = search rules in
    subst (λ (s : State). All (λ e. e.1 < length c.args.graph.now) s) (sym (copied ∙ c.in_ok-agreed.ensures.state)) (unconflicted-known (length c.args.graph.now) c.args.states.now c.requires.known)

pub mainline_order-requires : goal.mainline_order-requires
mainline_order-requires c =
    (subst (All (λ p. p < length c.args.graph.now)) (sym (c.deref-6.ensures.value ∙ c.in_ok-rest.ensures)) (filter-all (λ p. p < length c.args.graph.now) (λ p. not (is_in c.deref-5.result.now p)) c.deref-4.result.now (subst (All (λ p. p < length c.args.graph.now)) (sym c.deref-4.ensures.value) c.in_ok-full.ensures.known)))

pub checked-requires-2-clause-events : goal.checked-requires-2-clause-events
checked-requires-2-clause-events c =
    subst (All (λ p. p < length c.args.graph.now)) (sym (c.deref-7.ensures.value ∙ c.in_ok-order-2.ensures))
    (mainline_order-known c.args.graph.now (mainline c.args.graph.now c.get-power_levels.result) c.deref-6.result.now
    (subst (All (λ p. p < length c.args.graph.now)) (sym (c.deref-6.ensures.value ∙ c.in_ok-rest.ensures)) (filter-all (λ p. p < length c.args.graph.now) (λ p. not (is_in c.deref-5.result.now p)) c.deref-4.result.now (subst (All (λ p. p < length c.args.graph.now)) (sym c.deref-4.ensures.value) c.in_ok-full.ensures.known))))

pub returns-clause-conflicted : goal.returns-clause-conflicted
returns-clause-conflicted c = c.in_ok-conflicted.ensures ∙ conflicted-is c.args.states.now c.in_ok-agreed.agreed c.in_ok-agreed.ensures.state

pub returns-clause-power : goal.returns-clause-power
unfolding power_list power_steps
returns-clause-power c =
    let v = c.args.version in
    let rows = c.args.graph.now in
    let states : List State = shown c.args.states.now in
    let copied : c.in_ok-state.state ≡ c.in_ok-agreed.agreed = search rules in
    let first : c.in_ok-state.state ≡ unconflicted states = copied ∙ c.in_ok-agreed.ensures.state in
    let full : c.deref.result.now ≡ full_conflicted rows states = c.deref.ensures.value ∙ c.in_ok-full.ensures.set in
    let power : c.in_ok-power_set.power_set.items ≡ power_events rows (full_conflicted rows states) = c.in_ok-power_set.ensures.set ∙ ap (power_events rows) full in
    let order : c.deref-3.result.now ≡ power_list rows states = c.deref-3.ensures.value ∙ c.in_ok-order.ensures ∙ ap (power_order rows) (c.deref-2.ensures.value ∙ power) in
    c.in_ok-power.ensures.steps ∙ ap₂ (check_steps v rows) first order

pub returns-clause-others : goal.returns-clause-others
unfolding power_list partial_state other_list other_steps
returns-clause-others c =
    let v = c.args.version in
    let rows = c.args.graph.now in
    let states : List State = shown c.args.states.now in
    let copied : c.in_ok-state.state ≡ c.in_ok-agreed.agreed = search rules in
    let first : c.in_ok-state.state ≡ unconflicted states = copied ∙ c.in_ok-agreed.ensures.state in
    let full : c.deref.result.now ≡ full_conflicted rows states = c.deref.ensures.value ∙ c.in_ok-full.ensures.set in
    let power : c.in_ok-power_set.power_set.items ≡ power_events rows (full_conflicted rows states) = c.in_ok-power_set.ensures.set ∙ ap (power_events rows) full in
    let order : c.deref-3.result.now ≡ power_list rows states = c.deref-3.ensures.value ∙ c.in_ok-order.ensures ∙ ap (power_order rows) (c.deref-2.ensures.value ∙ power) in
    let partial : c.checked.new.state ≡ partial_state v rows states = c.in_ok-power.ensures.state ∙ ap₂ (iterative_auth_checks v rows) first order in
    let others : c.deref-6.result.now ≡ filter (λ p. not (is_in (power_events rows (full_conflicted rows states)) p)) (full_conflicted rows states) =
    c.deref-6.ensures.value ∙ c.in_ok-rest.ensures
    ∙ ap₂ (λ (xs ys : List ℕ). filter (λ p. not (is_in xs p)) ys) (c.deref-5.ensures.value ∙ power) (c.deref-4.ensures.value ∙ c.in_ok-full.ensures.set) in
    let list : c.deref-7.result.now ≡ other_list v rows states =
    c.deref-7.ensures.value ∙ c.in_ok-order-2.ensures
    ∙ ap₂ (λ (o : Option ℕ) (xs : List ℕ). mainline_order rows (mainline rows o) xs) (c.get-power_levels.ensures ∙ ap (λ (s : State). entry s power_key) partial) others in
    c.in_ok-others.ensures.steps ∙ ap₂ (check_steps v rows) partial list
