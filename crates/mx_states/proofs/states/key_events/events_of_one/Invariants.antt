use Rattle.std.proofs.Common.{◌≡◌, ◌++◌, drop}
use Rattle.std.specs.Prelude.{flat_map}
use Rattle.std.specs.FinMap.Entries.{find}
use Rattle.std.specs.Ordering.{nat_cmp}
use Rattle.mx_states.specs.Numbered.{option_list}
use Rattle.mx_states.specs.SnapshotEntries.{snapshot}
use Rattle.mx_states.proofs.states.key_events.events_of_one.Given as goal

-- the events so far, with those at the keys that are left, are all
abbrev pub invariant-loop-key : goal.invariant-loop-key
invariant-loop-key l =
    l.events.items ++ flat_map (λ key. option_list (find nat_cmp key (snapshot l.snapshots l.number))) (drop l.key-index l.key_numbers)
    ≡ flat_map (λ key. option_list (find nat_cmp key (snapshot l.snapshots l.number))) l.key_numbers
