-- What judges signatures at this server (our own).
use Rattle.mx_pdu.specs.Offers.{Judge}
use Rattle.mx_pdu.specs.Verifiers.{is_signed_by}

-- a server's signatures are accepted where it has any at all
abbrev pub judges_presence : Judge
judges_presence server bytes signatures = is_signed_by server signatures
