use Rattle.mx_page.proofs.ChangeLemmas.{changes-make}
use Rattle.mx_page.proofs.laws.changes_make_the_state.Goals as goal

pub returns : goal.returns
returns c = changes-make
