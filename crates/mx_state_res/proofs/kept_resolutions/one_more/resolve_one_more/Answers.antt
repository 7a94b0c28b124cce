use Rattle.std.proofs.Common.{◌≡◌, ◌<◌, ◌++◌, ◌∷◌, [], ℕ, drop, inl, length, refl, Some, take, ap, subst, sym, ◌∙◌}
use Rattle.std.specs.Prelude.{IfSome, is_some, true}
use Rattle.std.specs.FinMap.Entries.{put}
use Rattle.mx_pdu.specs.StateKeys.{Key}
use Rattle.mx_auth.specs.Rules.{key_of}
use Rattle.mx_graph.specs.Record.{Row, event}
use Rattle.mx_graph.proofs.Members.{In}
use Rattle.mx_orders.specs.Mainline.{mainline_cmp, put_in_order}
use Rattle.mx_graph.specs.StateMap.{State, entry, key_cmp}
use Rattle.mx_state_res.specs.KeptResolutions.{IsAdded, IsOutcome, events_checked, states_of}
use Rattle.mx_state_res.specs.LaterResolution.{agreed_line}
use Rattle.mx_states.specs.Numbered.{state_at}
use Rattle.mx_state_res.specs.Resolution.{iterative_auth_checks, unconflicted}
use Rattle.mx_state_res.specs.declared.kept_resolutions.outcomes.Outcome.{Outcome}
use Rattle.mx_state_res.proofs.KeptGrowthLemmas.{kept-one-more}
use Rattle.mx_state_res.proofs.KeptResolutionLemmas.{bytes-same, not-false, row-key}
use Rattle.mx_state_res.proofs.OneMoreLemmas.{to-back}
use Rattle.mx_state_res.proofs.SetLemmas.{all-at}
use Rattle.mx_state_res.proofs.kept_resolutions.one_more.resolve_one_more.Goals as goal

pub resolved_by-requires-clause-there : goal.resolved_by-requires-clause-there
resolved_by-requires-clause-there c =
    let rows = c.args.graph.now in
    let states = c.args.states.now in
    let x = c.in-Some-2.event in
    λ key at.
    let told : IsAdded rows states c.args.kept c.in-Some.newest.now x = subst (λ o. IfSome o (IsAdded rows states c.args.kept c.in-Some.newest.now)) c.in-Some-2.is c.in_ok-event.ensures in
    let same : told.key ≡ key = cc (sym told.one.at_key ∙ at) in
    ap (entry (state_at states c.in-Some.newest.now)) (sym same) ∙ told.one.there

pub returns-clause-numbers : goal.returns-clause-numbers
returns-clause-numbers c =
    let before : c.in-Some.before.now ≡ c.args.kept.numbers.items = bytes-same c.in-Some.before.now c.as_slice.result.now (not-false _ (sym c.ne.ensures ∙ c.if-ne.false)) ∙ c.as_slice.ensures.value in
    c.in_ok-push.ensures.items ∙ ap (λ ns. ns ++ c.in-Some.newest.now ∷ []) (sym before) ∙ sym c.in-Some.ensures.cases.0

pub returns-clause-kept : goal.returns-clause-kept
returns-clause-kept c =
    let rows = c.args.graph.now in
    let v = c.args.version in
    let states = c.args.states.now in
    let kept = c.args.kept in
    let ss = states_of states kept in
    let x = c.in-Some-2.event in
    let newest = c.in-Some.newest.now in
    let events = events_checked kept.order.items in
    let below : newest < length states = all-at (λ n. n < length states) c.args.numbers.now c.requires.numbers newest (subst (In newest) (sym c.in-Some.ensures.cases.0) (to-back c.in-Some.before.now newest newest (inl refl))) in
    let told : IsAdded rows states kept newest x = subst (λ o. IfSome o (IsAdded rows states kept newest)) c.in-Some-2.is c.in_ok-event.ensures in
    let key = told.key in
    let one = told.one in
    let placed : put_in_order (mainline_cmp rows (agreed_line rows ss)) x events ≡ take c.in-Some-3.place events ++ (x ∷ drop c.in-Some-3.place events) =
    subst (λ o. IfSome o (λ (found : ℕ × Outcome). put_in_order (mainline_cmp rows (agreed_line rows ss)) x events ≡ take found.0 events ++ (x ∷ drop found.0 events))) c.in-Some-3.is c.in_ok-place.ensures.placed in
    let outcome : IsOutcome v rows key x (iterative_auth_checks v rows (unconflicted ss) (take c.in-Some-3.place events)) (drop c.in-Some-3.place events) c.in-Some-3.outcome =
    subst (λ o. IfSome o (λ (found : ℕ × Outcome). IsOutcome v rows key x (iterative_auth_checks v rows (unconflicted ss) (take found.0 events)) (drop found.0 events) found.1)) c.in-Some-3.is (c.in_ok-place.ensures.outcome key one.at_key) in
    let own : Key = (c.kind.result.now, c.in-Some-state_key.state_key.now) in
    let row_is : key_of (event rows x) ≡ Some own =
    ap (λ (r : Row). key_of r.event) (sym c.row.ensures) ∙ row-key c.row.result.now.event c.kind.result.now c.in-Some-state_key.state_key.now c.kind.ensures c.in-Some-state_key.ensures in
    let key_is : own ≡ key = cc (sym row_is ∙ one.at_key) in
    let grown : c.insert.new.self ≡ put key_cmp key x kept.differing = c.in_ok-insert.ensures.ok ∙ ap (λ k. put key_cmp k x kept.differing) key_is in
    let added = c.in_ok-resolved.ensures.added rows one.known c.requires.known in
    kept-one-more v rows c.graph_is_sound.ensures states added.more c.resolved_by.new.states kept _ c.requires.kept newest key x told.before c.requires.known below one c.in-Some-3.place placed c.in-Some-3.outcome outcome
    (record { event = x; is_put = c.is_put-is_put.result }) refl c.is_put-is_put.ensures c.in_ok-push.ensures.items grown refl c.in_ok-insert-2.ensures.items c.in_ok-add_keys.ensures.stay c.in_ok-add_keys.ensures.added added.are c.in_ok-resolved.ensures.number (c.in_ok-resolved.ensures.resolved key one.at_key)
