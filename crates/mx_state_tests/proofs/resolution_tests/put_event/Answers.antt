use Rattle.std.proofs.Common.{◌<◌, length, sym, subst, rules}
use Rattle.std.specs.List.{All}
use Rattle.mx_graph.specs.StateMap.{key_cmp}
use Rattle.mx_states.proofs.KnownLemmas.{put-known}
use Rattle.mx_state_tests.proofs.resolution_tests.put_event.Goals as goal

pub returns : goal.returns
returns c =
    let known : c.in_ok-number.number < length c.args.graph.now = search rules in
    subst (All (λ e. e.1 < length c.args.graph.now)) (sym c.in_ok-insert.ensures.ok)
    (put-known key_cmp (λ p. p < length c.args.graph.now) _ c.in_ok-number.number c.args.state.now known c.requires)
