use Rattle.std.proofs.Common.{◌≡◌, ◌++◌, List, drop, length, IsTrue}
use Rattle.sqlite.specs.Held.{state}
use Rattle.sqlite.specs.State.{HasCleanDisk, Survives}
use Rattle.mx_keeper.specs.Moving.{AreDone, Changes, HasTheseRows}
use Rattle.mx_keeper.specs.ShardTable.{row_steps, shard_schema}
use Rattle.mx_keeper.specs.declared.rows.ShardRow.{ShardRow}
use Rattle.mx_keeper.proofs.tables.second_layout.add_rows.Given as goal

-- the rows so far were added
abbrev pub invariant-loop-row : goal.invariant-loop-row
invariant-loop-row g l = record {
  done : List ShardRow;
  all : done ++ drop l.row-index l.rows ≡ l.rows;
  counted : length done ≡ l.row-index;
  count : l.count ≡ l.row-index;
  same : l.transaction.conn.ghost_name ≡ l.fn.transaction.conn.ghost_name;
  added : HasCleanDisk (state g.S.Store l.transaction.conn.now) → IsTrue (state g.S.Store l.transaction.conn.now).is_open
      → Changes shard_schema (HasTheseRows done (state g.S.Store l.fn.transaction.conn.now).now.trees) (state g.S.Store l.fn.transaction.conn.now) (state g.S.Store l.transaction.conn.now);
  made : HasCleanDisk (state g.S.Store l.transaction.conn.now) → IsTrue (state g.S.Store l.transaction.conn.now).is_open
      → AreDone (row_steps 1 done) (state g.S.Store l.fn.transaction.conn.now) (state g.S.Store l.transaction.conn.now).now;
  survives : Survives (state g.S.Store l.fn.transaction.conn.now) (state g.S.Store l.transaction.conn.now) (λ _. ⊥);
}
