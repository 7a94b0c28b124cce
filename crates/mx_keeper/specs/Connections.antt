-- What a connection shows between the statements of a keeper (our own).
use Rattle.std.specs.Prelude.{◌≡◌, ◌≢◌, ◌⊎◌, ℕ, List, length, Option, Some, IsSome, IsTrue, false}
use Rattle.sqlite.specs.Order.{Row}
use Rattle.sqlite.specs.Schema.{Schema}
use Rattle.sqlite.specs.State.{State}
use Rattle.sqlite.specs.Effect.{IsDatabase}
use Rattle.sqlite.specs.Tree.{Trees, put_row}
use Rattle.sqlite.specs.Edit.{IsNoIndex}
use Rattle.mx_keeper.specs.Keeping.{Rose}

-- the trees of a file with this schema, which they list and obey
abbrev pub HasSchema : Schema → Trees → Type 0
HasSchema schema db = IsDatabase (record { schema = schema; trees = db })

-- no transaction is begun, so all that was written is committed
pub record IsIdle (s : State) : Type 0 where
  pub idle : s.in_transaction ≡ false
  pub settled : s.now ≡ s.committed

-- where it is open afterwards, it was open, and nothing was changed
pub record Stays (old new : State) : Type 0 where
  pub was_open : IsTrue old.is_open
  pub now : new.now ≡ old.committed
  pub committed : new.committed ≡ old.committed
  pub idle : new.in_transaction ≡ false

-- it was open and is, and the trees are such
pub record Puts (schema : Schema) (Are : Trees → Type 0) (old new : State) : Type 0 where
  pub was_open : IsTrue old.is_open
  pub is_open : IsTrue new.is_open
  pub idle : IsIdle new
  pub known : new.now.schema ≡ schema
  pub sound : HasSchema schema new.committed.trees
  pub trees_are : Are new.committed.trees

-- one row is put into the table with this tree, and each other table has what it had
pub record IsPut (schema : Schema) (tree : ℕ) (row : Row) (old new : Trees) : Type 0 where
  pub at : new tree ≡ put_row row (old tree)
  pub others : (t : ℕ) → t ≢ tree → IsNoIndex schema t → new t ≡ old t

-- the tables stand, and read as so many rows
pub record HasRows {Kept : Type 0} (schema : Schema) (read : Trees → Option (List Kept)) (count : ℕ) (s : State) : Type 0 where
  pub idle : IsIdle s
  pub known : s.now.schema ≡ schema
  pub all : List Kept
  pub reads : read s.committed.trees ≡ Some all
  pub counted : length all ≡ count

-- a keeper of these tables finds these rows: the file has the tables alone, and they read as the rows, or it is a file of an earlier layout, or has nothing, and these are its rows
abbrev pub Finds : {Kept : Type 0} → Schema → (Trees → Option (List Kept)) → (Schema → Trees → List Kept → Type 0) → State → List Kept → Type 0
Finds schema read Before s rows = ((s.now.schema ≡ schema) × (read s.committed.trees ≡ Some rows)) ⊎ Before s.now.schema s.committed.trees rows

-- a file of this layout that has the rows of a file of an earlier one, or of one with nothing
abbrev pub IsMoved : {Kept : Type 0} → Schema → (Trees → Option (List Kept)) → (Schema → Trees → List Kept → Type 0) → State → Trees → Type 0
IsMoved {Kept} schema read Before s db = HasSchema schema db × (rows : List Kept) × Before s.now.schema s.committed.trees rows × (read db ≡ Some rows)

-- why SQLite refuses, for another cause than memory, a query that fits the schema: the connection was shut, the disk failed or refused in the meantime, or a limit on steps is set
abbrev pub MayRefuse : State → State → Type 0
MayRefuse old new = (old.is_open ≡ false) ⊎ (Rose old.faults new.faults ⊎ IsSome old.step_limit)
