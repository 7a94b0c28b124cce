use Rattle.std.proofs.Common.{◌≡◌, ◌+◌, ◌++◌, drop, length, option_map}
use Rattle.mx_keeper.specs.TableRows.{read_from}
use Rattle.mx_keeper.proofs.tables.selected_rows.rows_of.Given as goal

-- what was read, and what is left
abbrev pub invariant-loop-row : goal.invariant-loop-row
invariant-loop-row g l =
    (length l.all.items ≡ l.row-index)
    × (option_map (λ more. l.all.items ++ more) (read_from g.R.SelectedRow.shown (l.row-index + 1) (drop l.row-index l.rows)) ≡ read_from g.R.SelectedRow.shown 1 l.rows)
