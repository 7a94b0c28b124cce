use Rattle.std.proofs.Common.{◌<◌, length, sym, subst}
use Rattle.std.specs.List.{All}
use Rattle.mx_graph.specs.StateMap.{State, key_cmp}
use Rattle.mx_states.proofs.KnownLemmas.{put-known}
use Rattle.mx_audit.proofs.steps.put_unless.Goals as goal

-- the event that is put is known, and so were the others
pub returns-in_ok-insert-clause-known : goal.returns-in_ok-insert-clause-known
returns-in_ok-insert-clause-known c =
    subst (λ (s : State). All (λ e. e.1 < length c.args.graph.now) s) (sym c.in_ok-insert.ensures.ok)
    (put-known key_cmp (λ n. n < length c.args.graph.now) _ _ _ c.requires.number c.requires.known)
