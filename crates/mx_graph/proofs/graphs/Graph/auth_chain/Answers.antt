use Rattle.std.proofs.Common.{◌<◌, length, ap, subst, sym, ◌∙◌}
use Rattle.mx_graph.specs.Record.{event, auth_events}
use Rattle.std.specs.List.{All}
use Rattle.mx_graph.specs.Edges.{cited}
use Rattle.mx_graph.specs.Graph.{auth_chain}
use Rattle.mx_graph.proofs.IndexLemmas.{lead-down}
use Rattle.mx_graph.proofs.Closure.{reached-below}
use Rattle.mx_graph.proofs.ReachedLemmas.{reached-rising}
use Rattle.mx_graph.proofs.graphs.Graph.auth_chain.Goals as goal

pub reached-requires : goal.reached-requires
reached-requires c =
    rw c.deref.ensures.value (lead-down c.self.inside.rows.items (λ p. auth_events c.self.inside.rows.items (event c.self.inside.rows.items p)) c.self.inside.auth_edges.items c.self.invariant.auth_down c.self.invariant.auth_edges)

pub returns-clause-set : goal.returns-clause-set
unfolding auth_chain
returns-clause-set c =
    rw (← c.self.view_is)
    (reached-rising c.self.inside.rows.items (λ p. auth_events c.self.inside.rows.items (event c.self.inside.rows.items p)) (cited c.deref.result.now) c.args.starts.now c.in_ok-found.found.items
    c.self.invariant.auth_down (λ p. ap (λ e. cited e p) c.deref.ensures.value ∙ c.self.invariant.auth_edges p) c.in_ok-found.ensures.rises c.in_ok-found.ensures.all)

pub returns-clause-below : goal.returns-clause-below
unfolding auth_chain
returns-clause-below c =
    subst (All (λ p. p < length c.args.self.now)) (sym (returns-clause-set c)) (reached-below c.args.self.now (λ p. auth_events c.args.self.now (event c.args.self.now p)) c.args.starts.now)
