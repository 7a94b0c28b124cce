use Rattle.std.proofs.Common.{rules, ◌≡◌}
use Rattle.std.proofs.lemmas.Fn.{always_returns_same}
use Rattle.mx_pdu.specs.StateKeys.{Key}
use Rattle.mx_states.specs.KeyNumbers.{order_at}
use Rattle.mx_states.proofs.KeyNumberLemmas.{searched_in_order}
use Rattle.mx_states.proofs.states.state_keys.place_of.Goals as goal

pub returns-clause-found : goal.returns-clause-found
returns-clause-found c =
    let facts = c.binary_search_by.ensures in
    let key : Key = (c.args.kind.now, c.args.state_key.now) in
    (searched_in_order c.args.keys.now c.args.order.now key c.requires c.binary_search_by.result facts.bound (facts.position (order_at c.args.keys.now key) (always_returns_same _ (λ a r. r ≡ order_at c.args.keys.now key a.0.now) _ (λ a r f k. search rules)))).found

pub returns-clause-absent : goal.returns-clause-absent
returns-clause-absent c =
    let facts = c.binary_search_by.ensures in
    let key : Key = (c.args.kind.now, c.args.state_key.now) in
    (searched_in_order c.args.keys.now c.args.order.now key c.requires c.binary_search_by.result facts.bound (facts.position (order_at c.args.keys.now key) (always_returns_same _ (λ a r. r ≡ order_at c.args.keys.now key a.0.now) _ (λ a r f k. search rules)))).absent
