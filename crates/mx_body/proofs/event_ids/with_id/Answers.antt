use Rattle.std.proofs.Common.{◌≡◌, ap, Err, is_none, false}
use Rattle.mx_ident.specs.Identifier.{is_event_id}
use Rattle.mx_body.specs.Questions.{ids_shown}
use Rattle.mx_body.proofs.IdLemmas.{not_an_id}
use Rattle.mx_body.proofs.event_ids.with_id.Goals as goal

pub returns-clause-ids : goal.returns-clause-ids
returns-clause-ids c =
    let arm = c.in-Err-NotAnId in
    let other : is_event_id c.args.text.now ≡ false = ap is_none ((arm.ensures.refused arm.field-0-0).0 (ap Err arm.field-0-is)) in
    not_an_id (ids_shown c.args.found) c.args.text.now other
