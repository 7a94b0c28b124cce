use Rattle.std.proofs.Common.{◌≡◌, ◌<◌, length, false, get_or, sym, ap, subst, ◌∙◌, arith}
use Rattle.std.proofs.lemmas.List.{get_or_default}
use Rattle.mx_graph.specs.AuthChains.{alone, kept_at, place_at, AreChains}
use Rattle.mx_graph.specs.Edges.{cited}
use Rattle.mx_graph.specs.declared.auth_chains.ChainPlace.{ChainPlace}
use Rattle.mx_graph.proofs.ChainLemmas.{chains-begun, chains-following}
use Rattle.mx_graph.proofs.auth_chains.AuthChains.cite_one.Goals as goal

pub returns-in-Some-clause-chains : goal.returns-in-Some-clause-chains
returns-in-Some-clause-chains c = λ meets met chains.
    let old = c.args.self.now.places.items in
    let event = c.args.event in
    let at_index : c.index-else-index-len.result ≡ event = c.index-else-index-len.ensures.index in
    let within : event < length old = omega (arith, c.index.ensures.index, c.len.ensures, c.if-index-len.false, c.args.self.now.places.ok.0) in
    let fresh : (place_at old event).is_cited ≡ false =
    ap (λ (s : ChainPlace). s.is_cited) (get_or_default old event (alone event) c.index-else-index-len-2.result.now within ∙ ap (λ i. get_or old i c.index-else-index-len-2.result.now) (sym at_index) ∙ sym c.index-else-index-len-2.ensures) ∙ c.if-index.false in
    subst (λ f. AreChains meets f (kept_at c.args.self.now.reached.items)) (λ i p. sym (c.follow.ensures.places p) i)
    (chains-following (cited c.args.edges.now) meets met (place_at old) (kept_at c.args.self.now.reached.items) chains event c.in-Some.last fresh c.in-Some.ensures.cited c.in-Some.ensures.place)

pub returns-in-None-clause-chains : goal.returns-in-None-clause-chains
returns-in-None-clause-chains c = λ meets met chains.
    subst (λ f. AreChains meets f (kept_at c.args.self.now.reached.items)) (λ i p. sym (c.begin.ensures.places p) i)
    (chains-begun meets (place_at c.args.self.now.places.items) (kept_at c.args.self.now.reached.items) c.args.event chains)
