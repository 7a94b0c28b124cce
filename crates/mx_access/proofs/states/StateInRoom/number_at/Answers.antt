use Rattle.std.proofs.Common.{◌<◌, length, IfSome, sym, subst}
use Rattle.mx_graph.specs.StateMap.{key_cmp}
use Rattle.mx_states.proofs.KnownLemmas.{find-known}
use Rattle.mx_access.proofs.states.StateInRoom.number_at.Goals as goal

-- the state's events are the room's
pub returns-clause-known : goal.returns-clause-known
returns-clause-known c =
    let known : IfSome c.get.result (λ n. n < length c.self.inside.timeline.now.kept) =
    subst (λ o. IfSome o (λ n. n < length c.self.inside.timeline.now.kept)) (sym c.get.ensures)
    (find-known key_cmp (λ n. n < length c.self.inside.timeline.now.kept) (c.args.kind.now, c.args.key.now) c.self.inside.state c.self.invariant) in
    subst (λ s. IfSome c.get.result (λ n. n < length s.0)) c.self.view_is known
