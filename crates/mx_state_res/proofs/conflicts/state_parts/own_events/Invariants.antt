use Rattle.std.proofs.Common.{◌≡◌, ◌++◌, drop}
use Rattle.mx_states.specs.Numbered.{events_at, state_at}
use Rattle.mx_state_res.proofs.conflicts.state_parts.own_events.Given as goal

-- the events so far, with those at the keys that are left, are all
abbrev pub invariant-loop-entry : goal.invariant-loop-entry
invariant-loop-entry l =
    l.events.items ++ events_at (drop l.entry-index l.entry-items) (state_at l.states l.number) ≡ events_at l.entry-items (state_at l.states l.number)
