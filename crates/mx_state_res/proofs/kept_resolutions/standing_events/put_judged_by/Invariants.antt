use Rattle.std.proofs.Common.{◌≡◌, ◌<◌, length, take}
use Rattle.std.specs.List.{All}
use Rattle.mx_auth.specs.Keys.{key_shown}
use Rattle.mx_graph.specs.StateMap.{entry}
use Rattle.mx_state_res.specs.KeptResolutions.{AreChecked, events_checked}
use Rattle.mx_state_res.specs.Numbered.{shown_by}
use Rattle.mx_state_res.specs.Resolution.{iterative_auth_checks}
use Rattle.mx_state_res.specs.TouchedKeys.{create_key}
use Rattle.mx_state_res.proofs.StandingLemmas.{Stood}
use Rattle.mx_state_res.proofs.kept_resolutions.standing_events.put_judged_by.Given as goal

-- at the keys so far stands what does once the events were checked
abbrev pub invariant-loop-at : goal.invariant-loop-at
invariant-loop-at l = record {
  known : All (λ e. e.1 < length l.before.graph.now) (shown_by l.state);
  so_far : AreChecked l.fn.version l.before.graph.now (shown_by l.fn.state) l.before.order.now
      → Stood (shown_by l.fn.state) (iterative_auth_checks l.fn.version l.before.graph.now (shown_by l.fn.state) (events_checked l.before.order.now)) (shown_by l.state)
      × ((entry (shown_by l.state) create_key ≡ entry (iterative_auth_checks l.fn.version l.before.graph.now (shown_by l.fn.state) (events_checked l.before.order.now)) create_key)
      × All (λ k. entry (shown_by l.state) (key_shown k) ≡ entry (iterative_auth_checks l.fn.version l.before.graph.now (shown_by l.fn.state) (events_checked l.before.order.now)) (key_shown k)) (take l.at l.keys));
}
