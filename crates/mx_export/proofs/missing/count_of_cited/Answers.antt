use Rattle.std.proofs.Common.{length, ap, arith, length-append}
use Rattle.mx_pdu.specs.Event.{auth_ids, prev_ids}
use Rattle.mx_export.proofs.missing.count_of_cited.Goals as goal

pub returns : goal.returns
returns c =
    let e = c.args.event.now in
    omega (arith, ap length c.prev_events.ensures, ap length c.auth_events.ensures, length-append (prev_ids e) (auth_ids e))
