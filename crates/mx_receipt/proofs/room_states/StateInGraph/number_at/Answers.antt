use Rattle.std.proofs.Common.{◌<◌, length, IfSome, sym, subst}
use Rattle.mx_graph.specs.StateMap.{key_cmp}
use Rattle.mx_states.proofs.KnownLemmas.{find-known}
use Rattle.mx_receipt.proofs.room_states.StateInGraph.number_at.Goals as goal

-- the state's events are known
pub returns-clause-known : goal.returns-clause-known
returns-clause-known c =
    let known : IfSome c.get.result (λ n. n < length c.self.inside.graph.now) =
    subst (λ o. IfSome o (λ n. n < length c.self.inside.graph.now)) (sym c.get.ensures)
    (find-known key_cmp (λ n. n < length c.self.inside.graph.now) (c.args.kind.now, c.args.key.now) c.self.inside.state c.self.invariant) in
    subst (λ s. IfSome c.get.result (λ n. n < length s.0)) c.self.view_is known
