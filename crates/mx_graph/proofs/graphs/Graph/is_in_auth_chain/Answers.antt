use Rattle.std.proofs.Common.{sym, subst}
use Rattle.mx_graph.specs.AuthChains.{kept_at, place_at}
use Rattle.mx_graph.specs.Graph.{HaveShortChains}
use Rattle.mx_graph.proofs.KeptChainLemmas.{answer-told}
use Rattle.mx_graph.proofs.ShortKeptLemmas.{short-kept}
use Rattle.mx_graph.proofs.graphs.Graph.is_in_auth_chain.Goals as goal

pub returns-clause-is : goal.returns-clause-is
returns-clause-is c =
    rw (← c.self.view_is)
    (answer-told c.self.inside.rows.items c.self.invariant.auth_down (place_at c.self.inside.auth_chains.places.items) (kept_at c.self.inside.auth_chains.reached.items) c.self.invariant.auth_chains.right c.args.starts.now c.args.event
    c.has_in_chain.result c.has_in_chain.ensures.kept c.has_in_chain.ensures.is)

pub returns-clause-answers : goal.returns-clause-answers
returns-clause-answers c = λ short.
    c.has_in_chain.ensures.answers (short-kept c.self.inside.rows.items c.self.inside.auth_chains c.self.invariant.auth_chains c.args.starts.now (subst (λ rows. HaveShortChains rows c.args.starts.now) (sym c.self.view_is) short))
