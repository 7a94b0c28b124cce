use Rattle.std.proofs.Common.{◌≡◌, ◌<◌, length, take}
use Rattle.std.specs.List.{All}
use Rattle.mx_state_res.specs.Numbered.{shown_by}
use Rattle.mx_state_res.specs.Resolution.{iterative_auth_checks}
use Rattle.mx_state_res.proofs.checks.auth_checks.check_each.Given as goal

-- the state after the events so far
abbrev pub invariant-loop-event : goal.invariant-loop-event
invariant-loop-event l = record {
  so_far : shown_by l.state ≡ iterative_auth_checks l.version l.graph (shown_by l.fn.state) (take l.event-index l.events);
  known : All (λ e. e.1 < length l.graph) (shown_by l.state);
  base : l.state.0 ≡ l.fn.state.0;
  taken : l.state.1.0 ≡ l.fn.state.1.0;
}
