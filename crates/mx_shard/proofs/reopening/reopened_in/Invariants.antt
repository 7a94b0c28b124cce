use Rattle.std.proofs.Common.{◌≡◌, ◌++◌, List}
use Rattle.std.specs.Prelude.{All, IsTrue}
use Rattle.mx_keeper.specs.Places.{is_at}
use Rattle.mx_keeper.specs.declared.rows.ShardRow.{ShardRow}
use Rattle.mx_shard.specs.Journal.{reopened, stored}
use Rattle.mx_shard.specs.Inside.{journal_of, IsReopened}
use Rattle.mx_shard.proofs.reopening.reopened_in.Given as goal

-- the rooms are those of the rows so far
abbrev pub invariant-loop-row : goal.invariant-loop-row
invariant-loop-row l = record {
  done : List ShardRow;
  all : done ++ l.row-iterator.rest.items ≡ l.fn.rows.items;
  here : All (λ row. IsTrue (is_at l.fn.place row.room)) done;
  journal : journal_of l.rooms.items l.journal.items ≡ reopened done;
  made : IsReopened l.rooms.items l.numbers l.holders l.journal.items;
  versions : stored (reopened done) ≡ done;
}
