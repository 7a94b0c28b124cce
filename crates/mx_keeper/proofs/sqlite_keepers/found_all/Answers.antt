use Rattle.std.proofs.lemmas.Result.{err_from_is_err_and}
use Rattle.mx_keeper.proofs.sqlite_keepers.found_all.Goals as goal

pub returns-in_err-rows-clause-table : goal.returns-in_err-rows-clause-table
returns-in_err-rows-clause-table g c clean is =
    let p = err_from_is_err_and c.from_residual.result c.from_residual.ensures.1 in
    c.in_err-rows.ensures.table clean (let told = rw (p.1, p.2) at is in cc)
