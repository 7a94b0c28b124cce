use Rattle.std.proofs.Common.{◌≡◌, map, take}
use Rattle.std.specs.Prelude.{flat_map}
use Rattle.std.specs.FinMap.Entries.{find}
use Rattle.std.specs.Ordering.{nat_cmp}
use Rattle.mx_states.specs.Numbered.{option_list}
use Rattle.mx_states.specs.SnapshotEntries.{snapshot}
use Rattle.mx_states.proofs.states.key_events.events_of_each.Given as goal

-- the events of the states so far
abbrev pub invariant-loop-number : goal.invariant-loop-number
invariant-loop-number l =
    map (λ events. events.items) l.found.items
    ≡ map (λ number. flat_map (λ key. option_list (find nat_cmp key (snapshot l.snapshots number))) l.key_numbers) (take l.number-index l.numbers)
