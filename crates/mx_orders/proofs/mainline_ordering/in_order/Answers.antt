use Rattle.std.proofs.Common.{rules, ◌≡◌, ◌∙◌, ap, map}
use Rattle.std.specs.Ordering.{is_lt}
use Rattle.std.proofs.lemmas.Fn.{always_returns_same}
use Rattle.std.proofs.lemmas.List.Sorted.{ranks_by}
use Rattle.mx_orders.specs.Places.{place_cmp}
use Rattle.mx_orders.proofs.PlaceLemmas.{order-is, place_cmp-total}
use Rattle.mx_orders.proofs.mainline_ordering.in_order.Goals as goal

pub returns : goal.returns
returns c line alike =
    c.in_ok-order.ensures ∙ ap (map (λ place. place.number)) c.deref.ensures.value
    ∙ order-is c.args.graph.now line c.graph_is_sound.ensures c.args.positions.now c.in_ok-places.places.items c.sort_by.new.self.items c.requires
    c.in_ok-places.ensures.numbers c.in_ok-places.ensures.positions c.in_ok-places.ensures.read alike
    c.in_ok-sort_by.ensures.permutation
    (c.in_ok-sort_by.ensures.sorted (λ a b. is_lt (place_cmp a b)) (ranks_by place_cmp-total (λ p. p))
    (always_returns_same _ (λ a r. is_lt r ≡ is_lt (place_cmp a.0.now a.1.0.now)) _ (λ a r f k. search rules)))
