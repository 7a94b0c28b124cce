use Rattle.std.proofs.Common.{◌<◌, ℕ, Bool, length, sym, ap, ◌∙◌}
use Rattle.std.specs.List.{list_any}
use Rattle.mx_states.specs.KeyNumbers.{passes_at}
use Rattle.mx_states.specs.MemberKeys.{is_member_key}
use Rattle.mx_states.specs.SnapshotEntries.{snapshot}
use Rattle.mx_states.proofs.EntrySearchLemmas.{any-more, any-end, known-here, numbers-searched}
use Rattle.mx_states.proofs.ShownLemmas.{below-at}
use Rattle.mx_states.proofs.states.member_search.has_passing_member.Goals as goal

pub passes_at-requires-clause-known : goal.passes_at-requires-clause-known
passes_at-requires-clause-known g c =
    let keys = c.args.keys.now in
    let maps = c.args.snapshots.now in
    known-here (λ n. n < g.T.EventTest.event_count c.args.test.now) keys (snapshot maps c.args.number) c.key-item.result c.requires.keys.distinct
    (below-at (length keys) maps c.args.number c.requires.keys.below) c.requires.known

pub returns-then-passes_at : goal.returns-then-passes_at
returns-then-passes_at g c =
    let keys = c.args.keys.now in
    let maps = c.args.snapshots.now in
    let m = snapshot maps c.args.number in
    let numbers = c.members_of-key-items.result.now in
    let event_test = g.T.EventTest.event_test c.args.test.now in
    let test : ℕ → Bool = passes_at event_test m in
    sym (any-more test numbers c.loop-key.key-index c.key-item.result c.loop-key-test.true c.key-item.is (sym c.passes_at.ensures ∙ c.if-passes_at.true)) ∙ c.loop-key.invariant
    ∙ ap (list_any test) c.members_of-key-items.ensures
    ∙ numbers-searched (is_member_key c.args.server.now) event_test keys m c.requires.keys.distinct (below-at (length keys) maps c.args.number c.requires.keys.below)

pub returns : goal.returns
returns g c =
    let keys = c.args.keys.now in
    let maps = c.args.snapshots.now in
    let m = snapshot maps c.args.number in
    let numbers = c.members_of-key-items.result.now in
    let event_test = g.T.EventTest.event_test c.args.test.now in
    let test : ℕ → Bool = passes_at event_test m in
    sym (any-end test numbers c.loop-key.key-index c.loop-key-test.false) ∙ c.loop-key.invariant
    ∙ ap (list_any test) c.members_of-key-items.ensures
    ∙ numbers-searched (is_member_key c.args.server.now) event_test keys m c.requires.keys.distinct (below-at (length keys) maps c.args.number c.requires.keys.below)
