use Rattle.std.proofs.Common.{Bool, true, false, ◌≡◌, ◌<◌, ◌&&◌, nat_le, length, ap, subst, sym, ◌∙◌, arith}
use Rattle.mx_graph.specs.Record.{is_in, event, auth_events}
use Rattle.mx_graph.specs.Edges.{cited}
use Rattle.mx_graph.specs.Graph.{IsLeastClosed, auth_chain}
use Rattle.mx_graph.proofs.Closure.{all-in, in-all, reached-below, reached-is_least}
use Rattle.mx_graph.proofs.IndexLemmas.{lead-down}
use Rattle.mx_graph.proofs.graphs.Graph.auth_chain_above.Goals as goal

pub reached_above-requires-clause-down : goal.reached_above-requires-clause-down
reached_above-requires-clause-down c =
    rw c.deref.ensures.value (lead-down c.self.inside.rows.items (λ p. auth_events c.self.inside.rows.items (event c.self.inside.rows.items p)) c.self.inside.auth_edges.items c.self.invariant.auth_down c.self.invariant.auth_edges)

pub reached_above-requires-clause-few : goal.reached_above-requires-clause-few
reached_above-requires-clause-few c =
    let a : length c.deref.result.now ≡ length c.self.inside.auth_edges.items = ap length c.deref.ensures.value in
    let b : length c.self.inside.auth_edges.items ≡ length c.self.inside.rows.items = c.self.invariant.auth_len in
    let d = c.self.invariant.few in
    omega (arith, d)

pub returns-clause-set : goal.returns-clause-set
unfolding auth_chain
returns-clause-set c =
    rw (← c.self.view_is)
    (λ p. c.in_ok-found.ensures.part (is_in (auth_chain c.self.inside.rows.items c.args.starts.now))
    (subst (λ cites. IsLeastClosed cites c.args.starts.now (is_in (auth_chain c.self.inside.rows.items c.args.starts.now)))
    (λ i q. sym (ap (λ e. cited e q) c.deref.ensures.value ∙ c.self.invariant.auth_edges q) i)
    (reached-is_least c.self.inside.rows.items (λ q. auth_events c.self.inside.rows.items (event c.self.inside.rows.items q)) c.args.starts.now c.self.invariant.auth_down)) p
    ∙ ap (λ n. nat_le n p && is_in (auth_chain c.self.inside.rows.items c.args.starts.now) p) c.index.ensures.index)

pub returns-clause-below : goal.returns-clause-below
unfolding auth_chain
returns-clause-below c =
    all-in (λ p. p < length c.args.self.now) c.in_ok-found.found.items
    (λ p e. in-all (λ q. q < length c.args.self.now) (auth_chain c.args.self.now c.args.starts.now) p
    (reached-below c.args.self.now (λ q. auth_events c.args.self.now (event c.args.self.now q)) c.args.starts.now)
    (second (nat_le c.args.least p) (is_in (auth_chain c.args.self.now c.args.starts.now) p) (sym (returns-clause-set c p) ∙ e)))
  where
    second : (a b : Bool) → (a && b) ≡ true → b ≡ true
    second true b f = f
    second false b f = absurd (cc f)
