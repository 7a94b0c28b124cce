use Rattle.std.proofs.Common.{◌≡◌, Some, ap, sym, ◌∙◌, arith}
use Rattle.mx_graph.specs.AuthChains.{place_at}
use Rattle.mx_graph.specs.declared.auth_chains.ChainPlace.{ChainPlace}
use Rattle.mx_graph.proofs.ChainDifferenceLemmas.{next-below, none-below}
use Rattle.mx_graph.proofs.auth_chains.AuthChains.below.Goals as goal

pub returns-then-index-first : goal.returns-then-index-first
returns-then-index-first c =
    let is : (place_at c.args.self.now.places.items c.args.row).below ≡ Some c.in_ok-below.below = ap (λ (s : ChainPlace). s.below) (sym c.place.ensures) ∙ c.in_ok-below.was in
    none-below (place_at c.args.self.now.places.items) c.requires c.args.row c.args.first c.in_ok-below.below is (omega (arith, c.index.ensures.index, c.if-index-first.true))

pub returns : goal.returns
returns c =
    let is : (place_at c.args.self.now.places.items c.args.row).below ≡ Some c.in_ok-below.below = ap (λ (s : ChainPlace). s.below) (sym c.place.ensures) ∙ c.in_ok-below.was in
    next-below (place_at c.args.self.now.places.items) c.requires c.args.row c.args.first c.in_ok-below.below is (omega (arith, c.index.ensures.index, c.if-index-first.false))
