use Rattle.std.proofs.Common.{rules, ◌≡◌, ◌∙◌}
use Rattle.std.specs.Ordering.{nat_cmp}
use Rattle.std.proofs.lemmas.Fn.{always_returns_same}
use Rattle.mx_orders.proofs.FallingLemmas.{found_in}
use Rattle.mx_orders.proofs.mainlines.place_in.Goals as goal

pub returns-clause-place : goal.returns-clause-place
returns-clause-place c =
    c.ok.ensures.value
    ∙ found_in c.args.line.now c.args.event c.requires c.binary_search_by.result c.binary_search_by.ensures.bound
    (c.binary_search_by.ensures.position (λ y. nat_cmp c.args.event y) (always_returns_same _ (λ a r. r ≡ nat_cmp c.args.event a.0.now) _ (λ a r f k. search rules)))
