-- Why an event was refused: the check that refused it, and what stood in the state that decided (Matrix specification,
-- Server-Server API, checks performed on receipt of a PDU).
use Rattle.std.specs.Prelude.{ℕ, List, map, Option, None, Some}
use Rattle.mx_redact.specs.Fields.{Event}
use Rattle.mx_pdu.specs.StateKeys.{Key}
use Rattle.mx_auth.specs.Rules.{rules, needed_keys}
use Rattle.mx_auth.specs.declared.refusals.Rule.{Rule}
use Rattle.mx_graph.specs.Record.{auth_events}
use Rattle.mx_graph.specs.StateMap.{State, entry}
use Rattle.mx_orders.specs.StateMap.{state_of, view}
use Rattle.mx_receipt.specs.Receipt.{Kept, rows_of, version_in, state_before_next, current_state, auth_failure}
use Rattle.mx_receipt.specs.declared.verdicts.Verdict.{Verdict}
use Rattle.mx_receipt.specs.declared.verdicts.Verdict.TheVariants.{Accepted, SoftFailed, Rejected}
use Rattle.mx_audit.specs.declared.checks.Check.{Check}
use Rattle.mx_audit.specs.declared.checks.Check.TheVariants.{AuthEvents, StateBefore, CurrentState}
use Rattle.mx_audit.specs.declared.checks.FailedCheck.{FailedCheck}

-- a check that fails by a line of the rules, else what the later checks find
abbrev pub failed_or : Check → Option Rule → Option FailedCheck → Option FailedCheck
failed_or check None next = next
failed_or check (Some rule) next = Some (record { check = check; rule = rule })

-- the first of the checks 4, 5 and 6 that fails, with the line that does not allow the event
unfoldable pub deciding_check : List Kept → Event → Option FailedCheck
deciding_check kept e =
    let rows = rows_of kept in
    failed_or AuthEvents (auth_failure rows e)
    (failed_or StateBefore (rules (version_in rows) e (view rows (state_before_next kept e)))
    (failed_or CurrentState (rules (version_in rows) e (view rows (current_state kept))) None))

-- the verdict on an event that fails a check
abbrev pub verdict_at : Check → Rule → Verdict
verdict_at AuthEvents rule = Rejected rule
verdict_at StateBefore rule = Rejected rule
verdict_at CurrentState rule = SoftFailed rule

-- the verdict by the check that decided
abbrev pub verdict_by : Option FailedCheck → Verdict
verdict_by None = Accepted
verdict_by (Some failed) = verdict_at failed.check failed.rule

-- the check whose state is told: the one that decided, and of an accepted event the one by the state before it
abbrev pub told_check : Option FailedCheck → Check
told_check None = StateBefore
told_check (Some failed) = failed.check

-- the state that a check judges an event on, which comes next
abbrev pub checked_state : List Kept → Event → Check → State
checked_state kept e AuthEvents = state_of (rows_of kept) (auth_events (rows_of kept) e)
checked_state kept e StateBefore = state_before_next kept e
checked_state kept e CurrentState = current_state kept

-- what stands in a state at some keys
abbrev pub entries_at : State → List Key → List (Key × Option ℕ)
entries_at s keys = map (λ key. (key, entry s key)) keys

-- what stands in the state that a check judges an event on, at the keys that the rules ask for (Matrix specification,
-- Server-Server API, auth events selection)
abbrev pub checked_entries : List Kept → Event → Check → List (Key × Option ℕ)
checked_entries kept e check = entries_at (checked_state kept e check) (needed_keys (version_in (rows_of kept)) e)

-- what stands there in the state that decided
unfoldable pub entries_asked : List Kept → Event → List (Key × Option ℕ)
entries_asked kept e = checked_entries kept e (told_check (deciding_check kept e))
