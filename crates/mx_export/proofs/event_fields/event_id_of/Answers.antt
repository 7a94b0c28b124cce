use Rattle.std.proofs.Common.{sym, ap, ◌∙◌, Err, is_none, true≢false}
use Rattle.mx_export.proofs.event_fields.event_id_of.Goals as goal

pub unreachable-requires : goal.unreachable-requires
unreachable-requires c =
    let arm = c.in-Err-NotAnId in
    let cause = (arm.ensures.refused arm.field-0-0).0 (ap Err arm.field-0-is) in
    true≢false (sym c.requires ∙ ap is_none cause)
