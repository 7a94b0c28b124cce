use Rattle.std.proofs.Common.{◌≡◌, ◌<◌, length, take}
use Rattle.std.specs.List.{All}
use Rattle.mx_state_res.specs.KeptResolutions.{AreChecked, events_checked}
use Rattle.mx_state_res.specs.Numbered.{shown_by}
use Rattle.mx_state_res.specs.Resolution.{iterative_auth_checks}
use Rattle.mx_state_res.proofs.kept_resolutions.checked_events.checked_each.Given as goal

-- the events so far are marked, and the state is that after them
abbrev pub invariant-loop-event : goal.invariant-loop-event
invariant-loop-event l = record {
  so_far : events_checked l.found.items ≡ take l.event-index l.events;
  checked : AreChecked l.version l.graph (shown_by l.fn.state) l.found.items;
  state : shown_by l.state ≡ iterative_auth_checks l.version l.graph (shown_by l.fn.state) (events_checked l.found.items);
  known : All (λ e. e.1 < length l.graph) (shown_by l.state);
}
