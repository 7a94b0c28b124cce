use Rattle.std.proofs.Common.{rules, ◌≡◌, ◌<◌, All, length, map, sym, ap, subst, ◌∙◌}
use Rattle.std.specs.Ordering.{is_lt}
use Rattle.std.proofs.lemmas.Fn.{always_returns_same}
use Rattle.std.proofs.lemmas.List.Sorted.{ranks_by}
use Rattle.mx_receipt.specs.Receipt.{rows_of}
use Rattle.mx_room.specs.EventOrders.{listed_id_rising}
use Rattle.mx_room.specs.Queries.{id_rising}
use Rattle.mx_room.specs.declared.queries.event_orders.Listed.{Listed}
use Rattle.mx_room.proofs.OrderLemmas.{id_rising-total, id_rising-agrees, sorted-events, events-below}
use Rattle.mx_room.proofs.queries.event_orders.by_id.Goals as goal

pub returns-clause-order : goal.returns-clause-order
returns-clause-order c =
    let rows = rows_of c.args.timeline.now.kept in
    c.in_ok-numbers.ensures ∙ ap (map (λ (l : Listed). l.number)) c.deref.ensures.value
    ∙ sorted-events rows listed_id_rising id_rising-total (id_rising rows) (id_rising-agrees rows) c.args.events.now c.in_ok-listed.listed.items c.sort_by.new.self.items
    c.in_ok-listed.ensures.numbers c.in_ok-listed.ensures.read
    (c.in_ok-sort_by.ensures.sorted (λ a b. is_lt (listed_id_rising a b)) (ranks_by id_rising-total (λ p. p))
    (always_returns_same _ (λ a r. is_lt r ≡ is_lt (listed_id_rising a.0.now a.1.0.now)) _ (λ a r f k. search rules)))
    (c.in_ok-sort_by.ensures.stable (λ a b. is_lt (listed_id_rising a b)) (ranks_by id_rising-total (λ p. p))
    (always_returns_same _ (λ a r. is_lt r ≡ is_lt (listed_id_rising a.0.now a.1.0.now)) _ (λ a r f k. search rules)))

pub returns-clause-below : goal.returns-clause-below
returns-clause-below c =
    subst (All (λ p. p < length c.args.timeline.now.kept)) (sym (c.in_ok-numbers.ensures ∙ ap (map (λ (l : Listed). l.number)) c.deref.ensures.value))
    (events-below c.args.timeline.now.kept c.in_ok-listed.listed.items c.sort_by.new.self.items c.in_ok-listed.ensures.read c.in_ok-sort_by.ensures.permutation)
