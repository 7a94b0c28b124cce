use Rattle.mx_page.proofs.DataLemmas.{data-is}
use Rattle.mx_page.proofs.laws.entries_make_the_data.Goals as goal

pub returns : goal.returns
returns c = data-is
