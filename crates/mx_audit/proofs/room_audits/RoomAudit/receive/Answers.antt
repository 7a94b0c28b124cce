use Rattle.std.proofs.Common.{List, sym, ap, ◌∙◌}
use Rattle.mx_receipt.specs.Receipt.{Kept, offer_error, rows_of}
use Rattle.mx_audit.proofs.ToldLemmas.{offer-shown}
use Rattle.mx_audit.proofs.room_audits.RoomAudit.receive.Goals as goal

pub returns-in_err-offer-clause-refused : goal.returns-in_err-offer-clause-refused
returns-in_err-offer-clause-refused c = λ cause.
    let same = ap (λ (kept : List Kept). offer_error (rows_of kept) c.args.id c.args.event) c.self.view_is in
    let (there, back) = c.offer.ensures.refused cause in
    let (to, from) = offer-shown c.from_residual.result c.offer.result c.in_err-offer.field-0.0 cause c.in_err-offer.was c.from_residual.ensures.1 in
    (λ h. sym same ∙ there (to h), λ h. from (back (same ∙ h)))
