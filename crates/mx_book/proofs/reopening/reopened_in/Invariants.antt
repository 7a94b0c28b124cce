use Rattle.std.proofs.Common.{◌≡◌, ◌++◌, List}
use Rattle.mx_keeper.specs.declared.rows.BookRow.{BookRow}
use Rattle.mx_book.specs.Journal.{reopened}
use Rattle.mx_book.specs.Inside.{IsReopened}
use Rattle.mx_book.proofs.reopening.reopened_in.Given as goal

-- the journal is of the rows so far
abbrev pub invariant-loop-row : goal.invariant-loop-row
invariant-loop-row l = record {
  done : List BookRow;
  all : done ++ l.row-iterator.rest.items ≡ l.fn.rows.items;
  journal : l.journal ≡ reopened done;
  made : IsReopened l.fn.place l.journal l.callers l.places l.replies.items;
}
