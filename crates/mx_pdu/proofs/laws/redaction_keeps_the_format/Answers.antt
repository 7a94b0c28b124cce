use Rattle.mx_pdu.proofs.RedactionLemmas.{redact-well_formed}
use Rattle.mx_pdu.proofs.laws.redaction_keeps_the_format.Goals as goal

pub returns : goal.returns
returns c = redact-well_formed
