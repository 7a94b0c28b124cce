-- What lines and pictures say of verdicts and checks.
use Rattle.std.specs.Prelude.{ℕ, List, codes, Option, None, Some}
use Rattle.mx_auth.specs.declared.refusals.Rule.{Rule}
use Rattle.mx_receipt.specs.declared.verdicts.Verdict.{Verdict}
use Rattle.mx_receipt.specs.declared.verdicts.Verdict.TheVariants.{Accepted, SoftFailed, Rejected}
use Rattle.mx_audit.specs.declared.checks.Check.{Check}
use Rattle.mx_audit.specs.declared.checks.Check.TheVariants.{AuthEvents, StateBefore, CurrentState}

-- the line of the rules that a verdict tells
abbrev pub refusal_of : Verdict → Option Rule
refusal_of Accepted = None
refusal_of (SoftFailed rule) = Some rule
refusal_of (Rejected rule) = Some rule

abbrev pub verdict_text : Verdict → List ℕ
verdict_text Accepted = codes "accepted"
verdict_text (SoftFailed rule) = codes "soft failed"
verdict_text (Rejected rule) = codes "rejected"

abbrev pub check_text : Check → List ℕ
check_text AuthEvents = codes "auth events"
check_text StateBefore = codes "state before"
check_text CurrentState = codes "current state"

-- green, yellow and red
abbrev pub colour_text : Verdict → List ℕ
colour_text Accepted = codes "#d5e8d4"
colour_text (SoftFailed rule) = codes "#fff2cc"
colour_text (Rejected rule) = codes "#f8cecc"
