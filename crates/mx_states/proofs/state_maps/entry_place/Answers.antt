use Rattle.std.proofs.Common.{rules, ◌≡◌}
use Rattle.std.proofs.lemmas.Fn.{always_returns_same}
use Rattle.mx_pdu.specs.StateKeys.{Key}
use Rattle.mx_graph.specs.StateMap.{key_cmp}
use Rattle.mx_states.proofs.PlaceLemmas.{searched}
use Rattle.mx_states.proofs.state_maps.entry_place.Goals as goal

pub returns-clause-found : goal.returns-clause-found
returns-clause-found c =
    let facts = c.binary_search_by.ensures in
    let key : Key = (c.args.kind.now, c.args.state_key.now) in
    (searched c.args.entries.now key c.requires c.binary_search_by.result facts.bound (facts.position (λ e. key_cmp e.0 key) (always_returns_same _ (λ a r. r ≡ key_cmp a.0.now.0 key) _ (λ a r f k. search rules)))).found

pub returns-clause-absent : goal.returns-clause-absent
returns-clause-absent c =
    let facts = c.binary_search_by.ensures in
    let key : Key = (c.args.kind.now, c.args.state_key.now) in
    (searched c.args.entries.now key c.requires c.binary_search_by.result facts.bound (facts.position (λ e. key_cmp e.0 key) (always_returns_same _ (λ a r. r ≡ key_cmp a.0.now.0 key) _ (λ a r f k. search rules)))).absent
