use Rattle.std.proofs.Common.{◌≡◌, IfOk, Some, sym, ap, subst, ◌∙◌}
use Rattle.sqlite.specs.Held.{state}
use Rattle.mx_keeper.specs.TableRows.{read_from, read_rows}
use Rattle.mx_keeper.proofs.tables.selected_rows.all_rows.Goals as goal

pub returns-in-Ok-clause-ok : goal.returns-in-Ok-clause-ok
returns-in-Ok-clause-ok g c clean =
    let one = g.R.SelectedRow.shown in
    let tree = (state g.S.Store c.args.connection.now).committed.trees g.R.SelectedRow.tree in
    let same : read_from one 1 c.deref.result.now ≡ read_rows g.R.SelectedRow.columns one tree = ap (read_from one 1) c.deref.ensures.value ∙ c.in-Ok.ensures.ok clean in
    subst (λ o. IfOk c.rows_of.result (λ all. o ≡ Some all.items)) same c.rows_of.ensures.ok

pub returns-in-Ok-clause-table : goal.returns-in-Ok-clause-table
returns-in-Ok-clause-table g c clean is =
    let one = g.R.SelectedRow.shown in
    let tree = (state g.S.Store c.args.connection.now).committed.trees g.R.SelectedRow.tree in
    let same : read_from one 1 c.deref.result.now ≡ read_rows g.R.SelectedRow.columns one tree = ap (read_from one 1) c.deref.ensures.value ∙ c.in-Ok.ensures.ok clean in
    ((c.in-Ok.ensures.same clean).0.was_open, sym same ∙ c.rows_of.ensures.table is)
