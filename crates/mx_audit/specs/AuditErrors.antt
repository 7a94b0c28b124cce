-- Errors of an audit, for private clauses.
use Rattle.mx_receipt.specs.declared.refusals.OfferError.{OfferError}
use Rattle.mx_receipt.specs.declared.refusals.OfferError.TheVariants as offer
use Rattle.mx_audit.specs.declared.audit_errors.AuditError.{AuditError}
use Rattle.mx_audit.specs.declared.audit_errors.AuditError.TheVariants as variants

-- the same, as the error of an audit
abbrev pub of_offer : OfferError → AuditError
of_offer offer.Memory = variants.Memory
of_offer (offer.NotReceived cause) = variants.NotReceived cause
