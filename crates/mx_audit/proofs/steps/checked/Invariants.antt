use Rattle.std.proofs.Common.{◌≡◌, ◌<◌, ◌++◌, length, drop}
use Rattle.std.specs.List.{All}
use Rattle.mx_state_res.specs.Resolution.{iterative_auth_checks}
use Rattle.mx_audit.specs.Steps.{check_steps}
use Rattle.mx_audit.proofs.steps.checked.Given as goal

-- the steps so far, with those of the events that are left, are all
abbrev pub invariant-loop-event : goal.invariant-loop-event
invariant-loop-event l = record {
  steps : l.steps.items ++ check_steps l.version l.graph l.state (drop l.event-index l.events) ≡ check_steps l.version l.graph l.fn.state l.events;
  state : iterative_auth_checks l.version l.graph l.state (drop l.event-index l.events) ≡ iterative_auth_checks l.version l.graph l.fn.state l.events;
  known : All (λ e. e.1 < length l.graph) l.state;
}
