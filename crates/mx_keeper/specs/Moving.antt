-- How a file is brought to the second layout, for private clauses (our own).
use Rattle.std.specs.Prelude.{◌≡◌, ◌≢◌, ◌⊎◌, ℕ, Bool, List, [], ◌∷◌, length, Some, Result, Ok, Err, OnOk, IsTrue, false, if◌then◌else◌}
use Rattle.sqlite.specs.Order.{Row}
use Rattle.sqlite.specs.Effect.{Database}
use Rattle.sqlite.specs.Schema.{Schema}
use Rattle.sqlite.specs.State.{State, Executes, ExecutesInside, HasCleanDisk}
use Rattle.sqlite.specs.Tree.{Trees}
use Rattle.sqlite.specs.declared.error.Error.{Error}
use Rattle.sqlite.specs.declared.error.Error.TheVariants.{SqliteFailure}
use Rattle.sqlite.specs.declared.error.ErrorCode.TheVariants.{OutOfMemory}
use Rattle.mx_keeper.specs.Connections.{MayRefuse}
use Rattle.mx_keeper.specs.Keeping.{with_row}
use Rattle.mx_keeper.specs.Refusals.{IsDone}
use Rattle.mx_keeper.specs.ShardTable.{IsGiven, MoveStep, RefusesOne, drop_text, plain_step, read_table}
use Rattle.mx_keeper.specs.declared.faults.KeeperFault.{KeeperFault}
use Rattle.mx_keeper.specs.declared.faults.KeeperFault.TheVariants.{Store}
use Rattle.mx_keeper.specs.declared.rows.ShardRow.{ShardRow}

-- a transaction is begun, which sees this schema
pub record IsInside (schema : Schema) (s : State) : Type 0 where
  pub begun : IsTrue s.in_transaction
  pub known : s.now.schema ≡ schema

-- within a transaction: it was open and is, nothing was committed, and it sees this schema, and such trees
pub record Changes (schema : Schema) (Are : Trees → Type 0) (old new : State) : Type 0 where
  pub was_open : IsTrue old.is_open
  pub is_open : IsTrue new.is_open
  pub inside : IsInside schema new
  pub committed : new.committed ≡ old.committed
  pub trees_are : Are new.now.trees

-- the statement was run within a transaction
pub record HasRun (text : List ℕ) (given : Row) (old new : State) : Type 0 where
  pub was_open : IsTrue old.is_open
  pub is_open : IsTrue new.is_open
  pub begun : IsTrue new.in_transaction
  pub committed : new.committed ≡ old.committed
  pub count : ℕ
  pub runs : Executes text given old new (Ok count)

-- the statement failed within a transaction, for another cause than memory
abbrev pub IsStopped : List ℕ → Row → State → State → Type 0
IsStopped text given old new = (old.is_open ≡ false) ⊎ ((e : Error) × (e ≢ SqliteFailure OutOfMemory) × ExecutesInside 0 text given old new (Err e))

-- these statements, one after the other, make this database of that of the state
abbrev pub AreDone : List MoveStep → State → Database → Type 0
AreDone [] s db = db ≡ s.now
AreDone (step ∷ more) s db = (given : Row) × IsGiven step.adds given × (after : Database) × IsDone step.text given s after
    × AreDone more (record s { now = after }) db

-- the statement that drops the table of the first layout, where it is there
abbrev pub drop_steps : Bool → List MoveStep
drop_steps had_first = if had_first then plain_step drop_text ∷ [] else []

-- where these statements of the move answer `Store`, SQLite refuses one of them, or any statement
abbrev pub TellsMove : {A : Type 0} → List MoveStep → State → State → Result A KeeperFault → Type 0
TellsMove steps old new result = HasCleanDisk new → result ≡ Err Store → MayRefuse old new ⊎ RefusesOne steps old

-- where these statements are run, they are done
abbrev pub DoesMove : {A : Type 0} → List MoveStep → State → State → Result A KeeperFault → Type 0
DoesMove steps old new result = HasCleanDisk new → OnOk result (IsTrue new.is_open → AreDone steps old new.now)

-- the three tables have no row
pub record AreEmpty (db : Trees) : Type 0 where
  pub first : db 0 ≡ []
  pub second : db 1 ≡ []
  pub third : db 2 ≡ []

-- the table of rows reads as so many
pub record ReadsSoMany (count : ℕ) (db : Trees) : Type 0 where
  pub all : List ShardRow
  pub reads : read_table db ≡ Some all
  pub counted : length all ≡ count

-- the other tables are as they were
pub record AreOthers (old new : Trees) : Type 0 where
  pub first : new 0 ≡ old 0
  pub third : new 2 ≡ old 2

-- the table of rows reads as one more
pub record HasOneMore (row : ShardRow) (old new : Trees) : Type 0 where
  pub reads : read_table new ≡ with_row (read_table old) row
  pub others : AreOthers old new

-- the table of rows reads as these
pub record HasTheseRows (rows : List ShardRow) (old new : Trees) : Type 0 where
  pub reads : read_table new ≡ Some rows
  pub others : AreOthers old new
