-- What is told of the events of a record, once all have come.
use Rattle.std.proofs.Common.{◌≡◌, ◌↔◌, ◌<◌, ◌≤◌, ◌⊎◌, inl, inr, ℕ, zero, suc, List, Option, None, Some, Bor, length, take, refl, sym, ap, ap₂, ◌∙◌, arith}
use Rattle.std.proofs.lemmas.Option.{slice_get_past, slice_get-get_or}
use Rattle.std.specs.Prelude.{IsErrAnd, IsErrOf, Result, Ok, Err, option_copied, option_map}
use Rattle.mx_redact.specs.Fields.{Event}
use Rattle.mx_pdu.specs.StateKeys.{Key}
use Rattle.mx_receipt.specs.Receipt.{AreJudged, Kept, auth_failure, kept_at, rows_of}
use Rattle.mx_receipt.specs.declared.verdicts.Verdict.{Verdict}
use Rattle.mx_receipt.specs.declared.refusals.NotReceived.{NotReceived}
use Rattle.mx_receipt.specs.declared.refusals.OfferError.{OfferError}
use Rattle.mx_receipt.specs.declared.refusals.OfferError.TheVariants as offer
use Rattle.mx_audit.specs.declared.audit_errors.AuditError.{AuditError}
use Rattle.mx_audit.specs.declared.audit_errors.AuditError.TheVariants as audit
use Rattle.mx_audit.specs.declared.checks.FailedCheck.{FailedCheck}
use Rattle.mx_audit.specs.declared.explaining.Explanation.{Explanation}
use Rattle.mx_audit.specs.AuditErrors.{of_offer}
use Rattle.mx_audit.specs.Explaining.{checked_entries, deciding_check, entries_asked, told_check, verdict_by}
use Rattle.mx_audit.specs.Noting.{failed_by}
use Rattle.mx_audit.specs.Told.{told, told_at, told_shown}
use Rattle.mx_audit.proofs.ExplainingLemmas.{failed_by-verdict, verdict-by}

module _ (kept : List Kept) (p : ℕ) where
  -- of the first event, and where there is none, nothing is told
  pub told-none : (p ≡ 0) ⊎ (length kept ≤ p) → None ≡ told kept p
  told-none (inl e) = ap (told kept) (sym e)
  told-none (inr l) = past p l
    where
      past : (q : ℕ) → length kept ≤ q → None ≡ told kept q
      past zero m = refl
      past (suc q) m = ap (option_map (λ _. told_at kept (suc q))) (sym (slice_get_past kept (suc q) m))

  -- of each other one
  pub told-some : 0 < p → p < length kept → Some (told_at kept p) ≡ told kept p
  told-some low l = there p low l
    where
      there : (q : ℕ) → 0 < q → q < length kept → Some (told_at kept q) ≡ told kept q
      there zero m n = absurd (omega arith)
      there (suc q) m n = ap (option_map (λ _. told_at kept (suc q))) (sym (slice_get-get_or kept (suc q) (kept_at kept 0) n))

  abbrev before : List Kept
  before = take p kept

  abbrev e : Event
  e = (kept_at kept p).event

  module _ (judged : AreJudged kept) (low : 0 < p) (here : p < length kept) where
    -- the check that the verdict tells is the one that decides
    pub failed-is : (failed : Option FailedCheck) → failed ≡ failed_by (kept_at kept p).verdict (auth_failure (rows_of before) e) → failed ≡ deciding_check before e
    failed-is failed is = is ∙ ap (λ v. failed_by v (auth_failure (rows_of before) e)) (judged p low here) ∙ failed_by-verdict before e

    pub verdict-is : (failed : Option FailedCheck) → failed ≡ deciding_check before e → (kept_at kept p).verdict ≡ verdict_by failed
    verdict-is failed is = judged p low here ∙ verdict-by before e ∙ ap verdict_by (sym is)

  -- and what stood in its state is what is asked
  pub asked-is : (failed : Option FailedCheck) (asked : List (Key × Option ℕ)) → failed ≡ deciding_check before e → asked ≡ checked_entries before e (told_check failed) → asked ≡ entries_asked before e
  unfolding entries_asked
  asked-is failed asked is asked_are = asked_are ∙ ap (λ f. checked_entries before e (told_check f)) is

-- an explanation that is lent
pub told-lent : (r : Option (Bor Explanation)) (x : Option Explanation) → option_copied r ≡ x → option_map (λ (e : Bor Explanation). told_shown e.now) r ≡ option_map told_shown x
told-lent None x e = ap (option_map told_shown) e
told-lent (Some y) x e = ap (option_map told_shown) e

-- ---- refusals

pub offer-shown : {S T : Type 0} (r : Result S AuditError) (p : Result T OfferError) (e : OfferError) (cause : NotReceived) → p ≡ Err e → IsErrAnd r (λ a. a ≡ of_offer e)
    → IsErrOf r (audit.NotReceived cause) ↔ IsErrOf p (offer.NotReceived cause)
offer-shown (Ok x) p e cause was is = absurd is
offer-shown (Err a) p offer.Memory cause was is = (λ h. absurd (cc (is, h)), λ h. absurd (cc (was, h)))
offer-shown (Err a) p (offer.NotReceived other) cause was is = (λ h. cc (was, is, h), λ h. cc (was, is, h))
