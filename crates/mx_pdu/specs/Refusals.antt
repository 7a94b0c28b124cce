-- The refusals of an object that has canonical JSON, for private clauses.
use Rattle.std.specs.Prelude.{Bool, not, Option, None}
use Rattle.mx_ident.specs.Identifier.{refuse_if}
use Rattle.mx_redact.specs.Fields.{Event}
use Rattle.mx_pdu.specs.Format.{has_fields, is_within_limits}
use Rattle.mx_pdu.specs.declared.refusals.NotAnEvent.{NotAnEvent}
use Rattle.mx_pdu.specs.declared.refusals.NotAnEvent.TheVariants.{TextTooLong, WrongField, OverLimit}

abbrev pub object_error : Bool → Event → Option NotAnEvent
object_error is_too_long e =
    refuse_if is_too_long TextTooLong
    (refuse_if (not (has_fields e)) WrongField
    (refuse_if (not (is_within_limits e)) OverLimit None))
