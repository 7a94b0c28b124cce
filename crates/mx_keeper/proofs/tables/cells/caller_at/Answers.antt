use Rattle.std.proofs.Common.{◌<◌, ◌^◌, Some, refl, ap, ◌∙◌, sym, arith}
use Rattle.mx_keeper.specs.Cells.{caller_in}
use Rattle.mx_keeper.proofs.CellLemmas.{caller_read, no_caller, past_end}
use Rattle.mx_keeper.proofs.tables.cells.caller_at.Goals as goal

pub returns-in-Ok-clause-ok : goal.returns-in-Ok-clause-ok
returns-in-Ok-clause-ok c =
    let low : c.in-Ok.number < 2 ^ 32 = omega (arith, c.new.ensures.value, c.new.ensures.within) in
    caller_read _ _ low c.in-Ok.ensures.ok.1 ∙ ap Some (sym c.new.ensures.value)

pub returns-in-Err-clause-table : goal.returns-in-Err-clause-table
returns-in-Err-clause-table c is = past_end caller_in refl c.args.row.now c.args.at (λ low. no_caller _ (c.in-Err.ensures.kind (c.misread.ensures.table (let e = is in cc)) low))
