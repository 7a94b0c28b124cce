use Rattle.std.proofs.Common.{◌≡◌, ◌<◌, ℕ, length, take, ap, subst, sym, ◌∙◌}
use Rattle.std.specs.List.{All}
use Rattle.std.proofs.lemmas.List.{take-map}
use Rattle.std.proofs.lemmas.List.Elements.{All-take}
use Rattle.mx_state_res.specs.KeptResolutions.{AreChecked, events_checked, state_before, states_of}
use Rattle.mx_state_res.specs.LaterResolution.{is_put}
use Rattle.mx_state_res.specs.Numbered.{shown_by}
use Rattle.mx_state_res.specs.Resolution.{iterative_auth_checks, unconflicted}
use Rattle.mx_state_res.specs.declared.kept_resolutions.checked_events.CheckedEvent.{CheckedEvent}
use Rattle.mx_state_res.specs.TouchedKeys.{HasPutKey}
use Rattle.mx_state_res.proofs.OneMoreLemmas.{checked-before}
use Rattle.mx_state_res.proofs.StandingLemmas.{is_put-alike}
use Rattle.mx_state_res.proofs.kept_resolutions.checked_places.is_put_at_place.Goals as goal

pub returns : goal.returns
returns c =
    let checks = c.args.checks.now in
    let v = checks.version in
    let rows = checks.graph.now in
    let kept = checks.kept.now in
    let order = kept.order.items in
    let agreed = unconflicted (states_of checks.states.now kept) in
    let place = c.args.place in
    let s = shown_by c.agreed_state-state.result in
    let front = c.split_at.result.0.now in
    let front_is : front ≡ take place order = c.split_at.ensures.front ∙ ap (take place) c.deref.ensures.value in
    let checked : AreChecked v rows s front =
    subst (λ t. AreChecked v rows t front) (sym c.agreed_state-state.ensures.shown) (subst (AreChecked v rows agreed) (sym front_is) (checked-before v rows order place agreed c.requires.kept.checked)) in
    let state : iterative_auth_checks v rows s (events_checked front) ≡ state_before v rows checks.states.now kept place =
    (λ i. iterative_auth_checks v rows (c.agreed_state-state.ensures.shown i) (events_checked (front_is i))) ∙ ap (iterative_auth_checks v rows agreed) (sym (take-map (λ (q : CheckedEvent). q.event) place order)) in
    c.is_put.ensures ∙ is_put-alike v rows (shown_by c.put_judged_by.new.state) (iterative_auth_checks v rows s (events_checked front)) c.args.event (c.in_ok-put_judged_by.ensures.stands checked)
    ∙ ap (λ t. is_put v rows t c.args.event) state

pub invariant_of-before-clause-known : goal.invariant_of-before-clause-known
invariant_of-before-clause-known c =
    let checks = c.args.checks.now in
    let order = checks.kept.now.order.items in
    let P : CheckedEvent → Type 0 = λ q. q.event < length checks.graph.now in
    subst (All P) (sym (c.split_at.ensures.front ∙ ap (take c.args.place) c.deref.ensures.value)) (All-take P c.args.place order c.requires.kept.at_keys.known)

pub invariant_of-before-clause-at_keys : goal.invariant_of-before-clause-at_keys
invariant_of-before-clause-at_keys c =
    let checks = c.args.checks.now in
    let kept = checks.kept.now in
    let P : CheckedEvent → Type 0 = HasPutKey checks.graph.now kept.touched.put_keys in
    subst (All P) (sym (c.split_at.ensures.front ∙ ap (take c.args.place) c.deref.ensures.value))
    (All-take P c.args.place kept.order.items (λ i d l. (c.requires.kept.touched i d l).0))
