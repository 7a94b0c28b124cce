-- For proofs and private clauses alone.
-- What is told of an event by the verdict on it.
use Rattle.std.specs.Prelude.{Option, None, Some}
use Rattle.mx_auth.specs.declared.refusals.Rule.{Rule}
use Rattle.mx_receipt.specs.declared.verdicts.Verdict.{Verdict}
use Rattle.mx_receipt.specs.declared.verdicts.Verdict.TheVariants.{Accepted, SoftFailed, Rejected}
use Rattle.mx_audit.specs.declared.checks.Check.{Check}
use Rattle.mx_audit.specs.declared.checks.Check.TheVariants.{AuthEvents, StateBefore, CurrentState}
use Rattle.mx_audit.specs.declared.checks.FailedCheck.{FailedCheck}

-- the check that a rejected event fails, by the line that does not allow it by its auth events, if any
abbrev pub rejected_by : Option Rule → Rule → FailedCheck
rejected_by (Some rule) later = record { check = AuthEvents; rule = rule }
rejected_by None later = record { check = StateBefore; rule = later }

-- the check that an event fails which is received under a verdict
abbrev pub failed_by : Verdict → Option Rule → Option FailedCheck
failed_by Accepted auth = None
failed_by (Rejected rule) auth = Some (rejected_by auth rule)
failed_by (SoftFailed rule) auth = Some (record { check = CurrentState; rule = rule })
