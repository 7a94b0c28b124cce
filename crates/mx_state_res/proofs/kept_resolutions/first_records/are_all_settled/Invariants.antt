use Rattle.std.proofs.Common.{◌≡◌, ℕ, take, true}
use Rattle.std.specs.List.{All}
use Rattle.mx_state_res.specs.KeptResolutions.{is_settled}
use Rattle.mx_states.specs.Numbered.{state_at}
use Rattle.mx_state_res.proofs.kept_resolutions.first_records.are_all_settled.Given as goal

-- the events so far stand there
abbrev pub invariant-loop-event : goal.invariant-loop-event
invariant-loop-event l = All (λ (event : ℕ). is_settled l.graph l.differing (state_at l.states l.base) event ≡ true) (take l.event-index l.events)
