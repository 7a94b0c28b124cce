-- The steps by which states of a room are resolved (Matrix specification, Room Version 2, state resolution).
use Rattle.std.specs.Prelude.{ℕ, not, ◌&&◌, if◌then◌else◌, List, [], ◌∷◌, map, filter, fold, Option, is_none}
use Rattle.mx_pdu.specs.Event.{is_state}
use Rattle.mx_auth.specs.Rules.{rules}
use Rattle.mx_auth.specs.declared.refusals.Rule.{Rule}
use Rattle.mx_auth.specs.declared.versions.RoomVersion.{RoomVersion}
use Rattle.mx_graph.specs.Record.{Row, event, is_in}
use Rattle.mx_graph.specs.StateMap.{State, entry}
use Rattle.mx_orders.specs.StateMap.{with_event}
use Rattle.mx_orders.specs.PowerOrder.{power_order}
use Rattle.mx_orders.specs.Mainline.{power_key, mainline, mainline_order}
use Rattle.mx_states.specs.Entries.{has_entry, overwritten}
use Rattle.mx_state_res.specs.Resolution.{unconflicted, full_conflicted, judged_in, after_check, iterative_auth_checks, power_events}
use Rattle.mx_audit.specs.declared.steps.ResolutionStep.{ResolutionStep}

-- the line that does not allow an event in the state so far
unfoldable pub refusal_at : RoomVersion → List Row → State → ℕ → Option Rule
refusal_at v rows s p = rules v (event rows p) (judged_in v rows s (event rows p))

-- the iterative auth checks of some events, in order
abbrev pub check_steps : RoomVersion → List Row → State → List ℕ → List ResolutionStep
check_steps v rows s [] = []
check_steps v rows s (p ∷ ps) = record { event = p; refusal = refusal_at v rows s p } ∷ check_steps v rows (after_check v rows s p) ps

-- a state with what a step puts there
abbrev pub with_step : List Row → State → ResolutionStep → State
with_step rows s step = if is_state (event rows step.event) && is_none step.refusal then with_event s (event rows step.event) step.event else s

abbrev pub with_steps : List Row → State → List ResolutionStep → State
with_steps rows s steps = fold (with_step rows) s steps

-- of each state, the entries that are not in the unconflicted state map
unfoldable pub conflicted_entries : List State → List State
conflicted_entries states = map (filter (λ e. not (has_entry e (unconflicted states)))) states

-- the power events of the full conflicted set, with its events in their auth chains, in power order
unfoldable pub power_list : List Row → List State → List ℕ
power_list rows states = power_order rows (power_events rows (full_conflicted rows states))

-- the state once these are checked
unfoldable pub partial_state : RoomVersion → List Row → List State → State
partial_state v rows states = iterative_auth_checks v rows (unconflicted states) (power_list rows states)

-- the other events of the full conflicted set, in the order of the mainline of the power levels event so far
unfoldable pub other_list : RoomVersion → List Row → List State → List ℕ
other_list v rows states =
    let full = full_conflicted rows states in
    mainline_order rows (mainline rows (entry (partial_state v rows states) power_key)) (filter (λ p. not (is_in (power_events rows full) p)) full)

unfoldable pub power_steps : RoomVersion → List Row → List State → List ResolutionStep
power_steps v rows states = check_steps v rows (unconflicted states) (power_list rows states)

unfoldable pub other_steps : RoomVersion → List Row → List State → List ResolutionStep
other_steps v rows states = check_steps v rows (partial_state v rows states) (other_list v rows states)

-- the state that these steps make: the unconflicted state map stands over all
unfoldable pub state_by_steps : List Row → List State → List ResolutionStep → List ResolutionStep → State
state_by_steps rows states power others = overwritten (with_steps rows (with_steps rows (unconflicted states) power) others) (unconflicted states)
