use Rattle.std.proofs.Common.{sym, subst}
use Rattle.mx_graph.specs.AuthChains.{kept_at, place_at}
use Rattle.mx_graph.specs.Graph.{HaveShortChains, HaveShortJointChain}
use Rattle.mx_graph.proofs.KeptChainLemmas.{found-told}
use Rattle.mx_graph.proofs.ShortKeptLemmas.{all_of, joint-few, joint-kept, kept-flat, short-kept}
use Rattle.mx_graph.proofs.graphs.Graph.auth_difference.Goals as goal

pub returns-clause-set : goal.returns-clause-set
returns-clause-set c =
    rw (← c.self.view_is)
    (found-told c.self.inside.rows.items c.self.invariant.auth_down (place_at c.self.inside.auth_chains.places.items) (kept_at c.self.inside.auth_chains.reached.items) c.self.invariant.auth_chains.right c.args.shared.now c.args.apart.now
    c.in_ok-found.found c.in_ok-found.ensures.shared c.in_ok-found.ensures.apart c.in_ok-found.ensures.set)

pub returns-clause-answers : goal.returns-clause-answers
returns-clause-answers c = λ short joint.
    let rows = c.self.inside.rows.items in
    let chains = c.self.inside.auth_chains in
    let kept = c.self.invariant.auth_chains in
    let apart = c.args.apart.now in
    let together : HaveShortJointChain rows (all_of apart) = subst (λ rs. HaveShortJointChain rs (all_of apart)) (sym c.self.view_is) joint in
    c.in_ok-found.ensures.answers (short-kept rows chains kept c.args.shared.now (subst (λ rs. HaveShortChains rs c.args.shared.now) (sym c.self.view_is) short))
    (kept-flat (kept_at chains.reached.items) apart (joint-kept rows c.self.invariant.auth_down chains kept (all_of apart) together)) kept.right.ends
    (joint-few rows c.self.invariant.auth_down chains kept apart together)
