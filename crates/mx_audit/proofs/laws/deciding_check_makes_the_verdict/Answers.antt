use Rattle.mx_audit.proofs.ExplainingLemmas.{verdict-by}
use Rattle.mx_audit.proofs.laws.deciding_check_makes_the_verdict.Goals as goal

pub returns : goal.returns
returns c = verdict-by
