-- The check that decides, beside the verdict.
use Rattle.std.proofs.Common.{◌≡◌, List, Option, None, Some, refl, ap, sym, ◌∙◌}
use Rattle.mx_redact.specs.Fields.{Event}
use Rattle.mx_auth.specs.declared.refusals.Rule.{Rule}
use Rattle.mx_receipt.specs.Receipt.{Kept, accept_or, verdict, rows_of, auth_failure}
use Rattle.mx_receipt.specs.declared.verdicts.Verdict.{Verdict}
use Rattle.mx_receipt.specs.declared.verdicts.Verdict.TheVariants.{Accepted, SoftFailed, Rejected}
use Rattle.mx_audit.specs.declared.checks.Check.TheVariants.{AuthEvents, StateBefore, CurrentState}
use Rattle.mx_audit.specs.declared.checks.FailedCheck.{FailedCheck}
use Rattle.mx_audit.specs.Explaining.{failed_or, verdict_by, deciding_check}
use Rattle.mx_audit.specs.Noting.{failed_by}

-- ---- three checks, one after another

verdict-failed : (a b c : Option Rule) → accept_or Rejected a (accept_or Rejected b (accept_or SoftFailed c Accepted)) ≡ verdict_by (failed_or AuthEvents a (failed_or StateBefore b (failed_or CurrentState c None)))
verdict-failed (Some rule) b c = refl
verdict-failed None (Some rule) c = refl
verdict-failed None None (Some rule) = refl
verdict-failed None None None = refl

failed-by : (a b c : Option Rule) → failed_by (accept_or Rejected a (accept_or Rejected b (accept_or SoftFailed c Accepted))) a ≡ failed_or AuthEvents a (failed_or StateBefore b (failed_or CurrentState c None))
failed-by (Some rule) b c = refl
failed-by None (Some rule) c = refl
failed-by None None (Some rule) = refl
failed-by None None None = refl

pub verdict-by : (kept : List Kept) (e : Event) → verdict kept e ≡ verdict_by (deciding_check kept e)
unfolding verdict deciding_check
verdict-by kept e = verdict-failed _ _ _

pub failed_by-verdict : (kept : List Kept) (e : Event) → failed_by (verdict kept e) (auth_failure (rows_of kept) e) ≡ deciding_check kept e
unfolding verdict deciding_check
failed_by-verdict kept e = failed-by _ _ _
