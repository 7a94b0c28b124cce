use Rattle.std.proofs.Common.{◌≡◌, drop}
use Rattle.std.specs.List.{list_any}
use Rattle.mx_states.specs.KeyNumbers.{passes_at}
use Rattle.mx_states.specs.SnapshotEntries.{snapshot}
use Rattle.mx_states.proofs.states.member_search.has_passing_member.Given as goal

-- the keys that are left decide
abbrev pub invariant-loop-key : goal.invariant-loop-key
invariant-loop-key g l =
    list_any (passes_at (g.T.EventTest.event_test l.test) (snapshot l.snapshots l.number)) (drop l.key-index l.key-items)
    ≡ list_any (passes_at (g.T.EventTest.event_test l.test) (snapshot l.snapshots l.number)) l.key-items
