use Rattle.std.proofs.Common.{◌≡◌, ◌++◌, drop, flat_map}
use Rattle.mx_state_res.proofs.conflicts.joined.Given as goal

-- the events so far, with those of the lists that are left, are all
abbrev pub invariant-loop-events : goal.invariant-loop-events
invariant-loop-events l = l.all.items ++ flat_map (λ c. c.items) (drop l.events-index l.lists) ≡ flat_map (λ c. c.items) l.lists
