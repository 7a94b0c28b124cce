use Rattle.std.proofs.Common.{◌≡◌, false, inr, Err, sym, ap, ◌∙◌, is_none}
use Rattle.mx_ident.specs.Identifier.{is_room_id}
use Rattle.mx_requests.specs.Targets.{segment_at}
use Rattle.mx_requests.specs.declared.faults.InvalidPart.TheVariants as invalid
use Rattle.mx_requests.proofs.SegmentLemmas.{refused}
use Rattle.mx_requests.proofs.targets.segments.room_at.Goals as goal

pub returns-clause-err : goal.returns-clause-err
returns-clause-err c =
    let text = c.deref.ensures ∙ c.in_ok-text.ensures.ok in
    let cause = c.in-Err-NotAnId.field-0-0 in
    let other : is_room_id c.deref.result.now ≡ false = ap is_none ((c.in-Err-NotAnId.ensures.refused cause).0 (ap Err c.in-Err-NotAnId.field-0-is)) in
    inr (refused is_room_id invalid.RoomId (segment_at c.args.path.now c.args.place) (ap is_room_id (sym text) ∙ other))
