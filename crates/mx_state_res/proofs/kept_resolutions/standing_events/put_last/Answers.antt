use Rattle.std.proofs.Common.{◌<◌, length, sym, subst}
use Rattle.std.specs.List.{All}
use Rattle.mx_graph.specs.StateMap.{State, key_cmp}
use Rattle.mx_states.proofs.KnownLemmas.{put-known}
use Rattle.mx_state_res.proofs.kept_resolutions.standing_events.put_last.Goals as goal

pub returns-clause-known : goal.returns-clause-known
returns-clause-known c =
    subst (λ (s : State). All (λ e. e.1 < length c.args.before.now.graph.now) s) (sym c.in_ok-insert.ensures.ok)
    (put-known key_cmp (λ n. n < length c.args.before.now.graph.now) _ _ _ c.in-Some.ensures.known c.requires.known)
