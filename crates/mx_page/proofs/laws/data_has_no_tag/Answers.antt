use Rattle.mx_page.proofs.EscapingLemmas.{has-none}
use Rattle.mx_page.proofs.laws.data_has_no_tag.Goals as goal

pub returns : goal.returns
returns c = has-none
