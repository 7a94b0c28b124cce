use Rattle.std.proofs.Common.{◌≡◌, ◌<◌, get_or, length, ap, subst, sym, ◌∙◌}
use Rattle.std.specs.List.{All}
use Rattle.std.specs.FinMap.Entries.{put}
use Rattle.mx_pdu.specs.StateKeys.{Key}
use Rattle.mx_graph.specs.StateMap.{State, entry, key_cmp}
use Rattle.mx_state_res.specs.KeptResolutions.{events_checked}
use Rattle.mx_state_res.specs.LaterResolution.{is_put}
use Rattle.mx_state_res.specs.Numbered.{shown_by}
use Rattle.mx_state_res.specs.Resolution.{iterative_auth_checks}
use Rattle.mx_state_res.specs.TouchedKeys.{keys_judged_by}
use Rattle.mx_states.proofs.KnownLemmas.{put-known}
use Rattle.mx_state_res.proofs.StandingLemmas.{is_put-alike, put-alike}
use Rattle.mx_state_res.proofs.kept_resolutions.standing_events.is_put_beside.Goals as goal

pub is_put-requires-clause-known : goal.is_put-requires-clause-known
is_put-requires-clause-known c =
    subst (λ (s : State). All (λ e. e.1 < length c.args.before.now.graph.now) s) (sym c.in_ok-insert.ensures.ok)
    (put-known key_cmp (λ n. n < length c.args.before.now.graph.now) _ _ _ c.requires.beside c.in_ok-put_judged_by.ensures.known)

pub returns : goal.returns
returns c =
    let v = c.args.version in
    let rows = c.args.before.now.graph.now in
    let key : Key = (c.args.beside.now.kind.now, c.args.beside.now.state_key.now) in
    let x = c.args.beside.now.event in
    let t = iterative_auth_checks v rows (shown_by c.args.state) (events_checked c.args.before.now.order.now) in
    let u = shown_by c.put_judged_by.new.state in
    let ks = keys_judged_by v rows c.args.event in
    λ checked.
    c.is_put.ensures ∙ ap (λ (s : State). is_put v rows s c.args.event) c.in_ok-insert.ensures.ok
    ∙ is_put-alike v rows (put key_cmp key x u) (put key_cmp key x t) c.args.event
    (λ i d l. put-alike key x u t (get_or ks i d) (c.in_ok-put_judged_by.ensures.stands checked i d l))
