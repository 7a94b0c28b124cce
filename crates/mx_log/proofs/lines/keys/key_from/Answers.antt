use Rattle.std.proofs.Common.{◌≡◌, sym, ap, Err, is_none, false, Some, None, if◌then◌else◌}
use Rattle.mx_ident.specs.Identifier.{is_server_name}
use Rattle.mx_log.proofs.lines.keys.key_from.Goals as goal

pub returns-in-Err-NotAnId : goal.returns-in-Err-NotAnId
returns-in-Err-NotAnId c =
    let arm = c.in-Err-NotAnId in
    let other : is_server_name c.args.origin.now ≡ false = ap is_none ((arm.ensures.refused arm.field-0-0).0 (ap Err arm.field-0-is)) in
    sym (ap (λ b. if b then Some (record { origin = c.args.origin.now; txn = c.args.txn.now }) else None) other)
