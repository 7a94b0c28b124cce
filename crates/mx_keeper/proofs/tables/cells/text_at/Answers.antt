use Rattle.std.proofs.Common.{refl}
use Rattle.std.proofs.lemmas.Str.{IsUtf8-had}
use Rattle.mx_keeper.specs.Cells.{text_in}
use Rattle.mx_keeper.proofs.CellLemmas.{text_read, no_text, past_end}
use Rattle.mx_keeper.proofs.tables.cells.text_at.Goals as goal

pub returns-in-Ok-clause-ok : goal.returns-in-Ok-clause-ok
returns-in-Ok-clause-ok c = text_read _ _ (IsUtf8-had _ c.in-Ok.text.ok) c.in-Ok.ensures.ok.1

pub returns-in-Err-clause-table : goal.returns-in-Err-clause-table
returns-in-Err-clause-table c is =
    past_end text_in refl c.args.row.now c.args.at (λ low. no_text _ (c.in-Err.ensures.kind (c.misread.ensures.table (let e = is in cc)) low))
