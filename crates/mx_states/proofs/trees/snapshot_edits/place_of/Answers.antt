use Rattle.std.proofs.Common.{rules, ◌≡◌}
use Rattle.std.proofs.lemmas.Fn.{always_returns_same}
use Rattle.std.specs.Ordering.{nat_cmp}
use Rattle.mx_states.proofs.SnapshotEntryLemmas.{searched}
use Rattle.mx_states.proofs.trees.snapshot_edits.place_of.Goals as goal

pub returns-clause-found : goal.returns-clause-found
returns-clause-found c =
    let facts = c.binary_search_by.ensures in
    (searched c.args.entries.now c.args.key c.requires c.binary_search_by.result facts.bound (facts.position (λ e. nat_cmp e.0 c.args.key) (always_returns_same _ (λ a r. r ≡ nat_cmp a.0.now.0 c.args.key) _ (λ a r f k. search rules)))).found

pub returns-clause-absent : goal.returns-clause-absent
returns-clause-absent c =
    let facts = c.binary_search_by.ensures in
    (searched c.args.entries.now c.args.key c.requires c.binary_search_by.result facts.bound (facts.position (λ e. nat_cmp e.0 c.args.key) (always_returns_same _ (λ a r. r ≡ nat_cmp a.0.now.0 c.args.key) _ (λ a r f k. search rules)))).absent
