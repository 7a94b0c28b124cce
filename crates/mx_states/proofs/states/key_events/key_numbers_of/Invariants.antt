use Rattle.std.proofs.Common.{◌≡◌, ◌++◌, drop}
use Rattle.std.specs.Prelude.{flat_map}
use Rattle.mx_states.specs.KeyNumbers.{number_of}
use Rattle.mx_states.specs.Numbered.{option_list}
use Rattle.mx_states.proofs.states.key_events.key_numbers_of.Given as goal

-- the numbers so far, with those of the keys that are left, are all
abbrev pub invariant-loop-entry : goal.invariant-loop-entry
invariant-loop-entry l =
    l.found.items ++ flat_map (λ e. option_list (number_of l.keys e.0)) (drop l.entry-index l.entry-items)
    ≡ flat_map (λ e. option_list (number_of l.keys e.0)) l.entry-items
