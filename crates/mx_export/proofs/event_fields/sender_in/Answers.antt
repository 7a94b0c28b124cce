use Rattle.std.proofs.Common.{sym, ap, ◌∙◌, Err, is_none, true≢false}
use Rattle.mx_ident.specs.Identifier.{is_user_id}
use Rattle.mx_pdu.proofs.IdLemmas.{sender-is}
use Rattle.mx_export.proofs.event_fields.sender_in.Goals as goal

pub unreachable-requires : goal.unreachable-requires
unreachable-requires c =
    let arm = c.in-Err-NotAnId in
    let cause = (arm.ensures.refused arm.field-0-0).0 (ap Err arm.field-0-is) in
    true≢false (sym (ap is_user_id c.text_or_empty_at.ensures ∙ sender-is _ c.requires) ∙ ap is_none cause)
