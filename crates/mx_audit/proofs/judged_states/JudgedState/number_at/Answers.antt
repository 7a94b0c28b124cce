use Rattle.std.proofs.Common.{◌<◌, length, IfSome, sym, subst}
use Rattle.mx_graph.specs.StateMap.{key_cmp}
use Rattle.mx_states.proofs.KnownLemmas.{find-known}
use Rattle.mx_audit.proofs.judged_states.JudgedState.number_at.Goals as goal

-- the state's events are known
pub returns-in-Some-clause-known : goal.returns-in-Some-clause-known
returns-in-Some-clause-known c =
    let known : c.in-Some.number < length c.self.inside.graph.now =
    subst (λ o. IfSome o (λ n. n < length c.self.inside.graph.now)) (sym c.in-Some.ensures) (find-known key_cmp (λ n. n < length c.self.inside.graph.now) (c.args.kind.now, c.args.key.now) c.self.inside.state.now c.self.invariant.1) in
    subst (λ j. c.in-Some.number < length j.0) c.self.view_is known
