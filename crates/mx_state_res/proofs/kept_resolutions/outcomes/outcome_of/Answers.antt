use Rattle.std.proofs.Common.{[], ◌≡◌, ◌<◌, ◌++◌, ◌∷◌, drop, length, slice_index_or, take, ap, subst, sym, ◌∙◌, arith}
use Rattle.std.specs.Prelude.{IfSome, is_none, option_copied, slice_get}
use Rattle.std.specs.List.{All}
use Rattle.std.proofs.lemmas.List.{drop-map, drop_all, length-map, take-map, take_all}
use Rattle.mx_graph.specs.StateMap.{entry}
use Rattle.mx_orders.specs.Mainline.{mainline, mainline_cmp, power_key, put_in_order}
use Rattle.mx_state_res.specs.KeptResolutions.{IsInOrder, IsOutcome, events_checked, first_of, state_before, states_of}
use Rattle.mx_state_res.specs.LaterResolution.{agreed_line, checking_order}
use Rattle.mx_state_res.specs.Numbered.{shown_by}
use Rattle.mx_states.specs.Numbered.{state_at, without}
use Rattle.mx_state_res.specs.Resolution.{full_conflicted, iterative_auth_checks, unconflicted}
use Rattle.mx_state_res.specs.declared.kept_resolutions.checked_events.CheckedEvent.{CheckedEvent}
use Rattle.mx_state_res.proofs.ResolvingLemmas.{without-known}
use Rattle.mx_states.proofs.KeyLemmas.{Sorted, sorted-filter}
use Rattle.mx_state_res.proofs.KeptResolutionLemmas.{first-below, first-is}
use Rattle.mx_state_res.proofs.KeptStateLemmas.{resolved-is}
use Rattle.mx_state_res.proofs.LaterCheckLemmas.{sorted-checks}
use Rattle.mx_state_res.proofs.LaterOrderLemmas.{order-in-order}
use Rattle.mx_state_res.proofs.NumberedConflictLemmas.{known-one}
use Rattle.mx_state_res.proofs.OneMoreLemmas.{checked-before, checked-behind}
use Rattle.mx_state_res.proofs.kept_resolutions.outcomes.outcome_of.Goals as goal

pub place_of-requires-clause-order : goal.place_of-requires-clause-order
place_of-requires-clause-order c =
    let rows = c.args.graph.now in
    let ss = states_of c.args.states.now c.args.kept.now in
    let base : c.in-Some.base.now ≡ slice_index_or c.args.kept.now.numbers.items 0 0 = first-is c.args.kept.now.numbers.items c.in-Some.base.now (ap (λ xs. slice_get xs 0) (sym c.deref.ensures.value) ∙ sym c.first.ensures.value ∙ ap option_copied c.in-Some.is) in
    let shown : shown_by c.without-state.result ≡ unconflicted ss =
    ap shown_by c.without-state.ensures ∙ ap (without c.args.kept.now.differing) (c.state.ensures ∙ ap (state_at c.args.states.now) base) ∙ sym c.requires.kept.at_keys.agreed in
    let line : mainline rows c.get-power_levels.result ≡ agreed_line rows ss = ap (mainline rows) (c.get-power_levels.ensures ∙ ap (λ s. entry s power_key) shown) in
    let events : events_checked c.deref-2.result.now ≡ checking_order rows ss = ap events_checked c.deref-2.ensures.value ∙ c.requires.kept.at_keys.order in
    subst (λ l. IsInOrder (mainline_cmp rows l) (events_checked c.deref-2.result.now)) (sym line)
    (subst (IsInOrder (mainline_cmp rows (agreed_line rows ss))) (sym events) (order-in-order rows (agreed_line rows ss) (full_conflicted rows ss)))

pub returns-in-Some-2-clause-placed : goal.returns-in-Some-2-clause-placed
returns-in-Some-2-clause-placed c =
    let v = c.args.version in
    let rows = c.args.graph.now in
    let kept = c.args.kept.now in
    let ss = states_of c.args.states.now kept in
    let one = c.requires.kept.at_keys in
    let place = c.in_ok-place.place in
    let base : c.in-Some.base.now ≡ slice_index_or kept.numbers.items 0 0 = first-is kept.numbers.items c.in-Some.base.now (ap (λ xs. slice_get xs 0) (sym c.deref.ensures.value) ∙ sym c.first.ensures.value ∙ ap option_copied c.in-Some.is) in
    let shown : shown_by c.without-state.result ≡ unconflicted ss =
    ap shown_by c.without-state.ensures ∙ ap (without kept.differing) (c.state.ensures ∙ ap (state_at c.args.states.now) base) ∙ sym one.agreed in
    let line : mainline rows c.get-power_levels.result ≡ agreed_line rows ss = ap (mainline rows) (c.get-power_levels.ensures ∙ ap (λ s. entry s power_key) shown) in
    subst (λ l. put_in_order (mainline_cmp rows l) c.args.event (events_checked kept.order.items) ≡ take place (events_checked kept.order.items) ++ (c.args.event ∷ drop place (events_checked kept.order.items))) line
    (subst (λ cs. put_in_order (mainline_cmp rows (mainline rows c.get-power_levels.result)) c.args.event (events_checked cs) ≡ take place (events_checked cs) ++ (c.args.event ∷ drop place (events_checked cs))) c.deref-2.ensures.value
    c.in_ok-place.ensures.placed)

pub returns-in-Some-2-clause-outcome : goal.returns-in-Some-2-clause-outcome
returns-in-Some-2-clause-outcome c =
    let v = c.args.version in
    let rows = c.args.graph.now in
    let kept = c.args.kept.now in
    let place = c.in_ok-place.place in
    λ key at_key.
    subst (λ o. IfSome o (IsOutcome v rows key c.args.event (state_before v rows c.args.states.now kept place) (drop place (events_checked kept.order.items)))) c.in-Some-2.is (c.in_ok-outcome.ensures key at_key)

pub returns-then-place-len-clause-placed : goal.returns-then-place-len-clause-placed
returns-then-place-len-clause-placed c =
    let v = c.args.version in
    let rows = c.args.graph.now in
    let kept = c.args.kept.now in
    let ss = states_of c.args.states.now kept in
    let one = c.requires.kept.at_keys in
    let place = c.in_ok-place.place in
    let base : c.in-Some.base.now ≡ slice_index_or kept.numbers.items 0 0 = first-is kept.numbers.items c.in-Some.base.now (ap (λ xs. slice_get xs 0) (sym c.deref.ensures.value) ∙ sym c.first.ensures.value ∙ ap option_copied c.in-Some.is) in
    let shown : shown_by c.without-state.result ≡ unconflicted ss =
    ap shown_by c.without-state.ensures ∙ ap (without kept.differing) (c.state.ensures ∙ ap (state_at c.args.states.now) base) ∙ sym one.agreed in
    let line : mainline rows c.get-power_levels.result ≡ agreed_line rows ss = ap (mainline rows) (c.get-power_levels.ensures ∙ ap (λ s. entry s power_key) shown) in
    subst (λ l. put_in_order (mainline_cmp rows l) c.args.event (events_checked kept.order.items) ≡ take place (events_checked kept.order.items) ++ (c.args.event ∷ drop place (events_checked kept.order.items))) line
    (subst (λ cs. put_in_order (mainline_cmp rows (mainline rows c.get-power_levels.result)) c.args.event (events_checked cs) ≡ take place (events_checked cs) ++ (c.args.event ∷ drop place (events_checked cs))) c.deref-2.ensures.value
    c.in_ok-place.ensures.placed)

pub returns-then-place-len-clause-outcome : goal.returns-then-place-len-clause-outcome
returns-then-place-len-clause-outcome c =
    let v = c.args.version in
    let rows = c.args.graph.now in
    let states = c.args.states.now in
    let kept = c.args.kept.now in
    let ss = states_of states kept in
    let at = c.requires.kept.at_keys in
    let place = c.in_ok-place.place in
    let events = events_checked kept.order.items in
    let whole : length events ≡ length kept.order.items = length-map kept.order.items (λ (q : CheckedEvent). q.event) in
    let base : c.in-Some.base.now ≡ slice_index_or kept.numbers.items 0 0 = first-is kept.numbers.items c.in-Some.base.now (ap (λ xs. slice_get xs 0) (sym c.deref.ensures.value) ∙ sym c.first.ensures.value ∙ ap option_copied c.in-Some.is) in
    let agreed_sorted : Sorted (unconflicted ss) = subst Sorted (sym at.agreed) (sorted-filter (λ e. is_none (entry kept.differing e.0)) (first_of states kept) (subst (λ n. Sorted (state_at states n)) base c.state_is_sorted.ensures)) in
    let all : take place events ≡ events = take_all place events (omega arith) in
    let none : drop place events ≡ [] = drop_all place events (omega arith) in
    let state : state_at states kept.resolved ≡ iterative_auth_checks v rows (unconflicted ss) (take place events) =
    c.requires.kept.resolved ∙ resolved-is v rows ss (first_of states kept) kept at c.if-kept.true agreed_sorted ∙ ap (iterative_auth_checks v rows (unconflicted ss)) (sym all) in
    λ key at_key.
    subst (λ ps. IsOutcome v rows key c.args.event (iterative_auth_checks v rows (unconflicted ss) (take place events)) ps c.outcome_at_end-outcome.result) (sym none)
    (subst (λ t. IsOutcome v rows key c.args.event t [] c.outcome_at_end-outcome.result) state (c.outcome_at_end-outcome.ensures key))
