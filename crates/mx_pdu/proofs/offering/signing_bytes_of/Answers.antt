use Rattle.std.proofs.Common.{ap, Err}
use Rattle.mx_pdu.proofs.FormatLemmas.{formed}
use Rattle.mx_pdu.proofs.HashLemmas.{signed-canonical}
use Rattle.mx_pdu.proofs.offering.signing_bytes_of.Goals as goal

pub unreachable-requires : goal.unreachable-requires
unreachable-requires c =
    let arm = c.in-Err-NotCanonical in
    let cause = (arm.ensures.not_canonical arm.field-0-0).0 (ap Err arm.field-0-is) in
    signed-canonical _ arm.field-0-0 (formed _ c.requires).canonical cause
