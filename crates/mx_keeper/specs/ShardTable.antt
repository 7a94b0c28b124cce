-- The tables of a shard's file, and what its rows read as (our own).
use Rattle.std.specs.Prelude.{◌≡◌, ◌⊎◌, ℕ, ◌+◌, ℤ, pos, Bool, true, false, [], ◌∷◌, ◌++◌, ◌==◌, if◌then◌else◌, codes, List, Option, None, Some, option_and_then, option_map}
use Rattle.serde_json.specs.Data.{Data}
use Rattle.sqlite.specs.declared.types.Value.TheVariants.{Null, Int, Text as Words}
use Rattle.sqlite.specs.Kind.TheVariants.{Integer, Text}
use Rattle.sqlite.specs.Order.{Row, column}
use Rattle.sqlite.specs.Schema.{Schema}
use Rattle.sqlite.specs.Effect.{Database}
use Rattle.sqlite.specs.State.{State}
use Rattle.sqlite.specs.Table.{Table}
use Rattle.sqlite.specs.Tree.{Trees}
use Rattle.mx_auth.specs.Versions.{version_text}
use Rattle.mx_auth.specs.declared.versions.RoomVersion.{RoomVersion}
use Rattle.mx_keeper.specs.Cells.{at_place, number_in, caller_in, text_in, room_of_text, event_of_text, version_of_text}
use Rattle.mx_keeper.specs.FirstLayout.{kept, kept_schema, read_first, read_versioned}
use Rattle.mx_keeper.specs.Refusals.{IsDone, IsRefused}
use Rattle.mx_keeper.specs.Schemas.{no_schema, plain_column, plain_table}
use Rattle.mx_keeper.specs.TableRows.{read_rows}
use Rattle.mx_keeper.specs.declared.tables.first_rows.FirstRow.{FirstRow}
use Rattle.mx_keeper.specs.declared.tables.layout_numbers.LayoutNumber.{LayoutNumber}
use Rattle.mx_keeper.specs.declared.rows.ShardRow.{ShardRow}

-- the table of the rows, whose tree is this
abbrev pub kept2 : ℕ → Table
kept2 tree =
    plain_table (codes "kept2") tree
    (plain_column (codes "place") Integer false ∷ plain_column (codes "room") Text true ∷ plain_column (codes "version") Text true ∷ plain_column (codes "event") Text true ∷ plain_column (codes "caller") Integer true ∷ []) [] []

-- the table of the layout's number
abbrev pub layout : ℕ → Table
layout tree = plain_table (codes "layout") tree (plain_column (codes "place") Integer false ∷ plain_column (codes "number") Integer true ∷ []) [] []

-- a file in which the second table is made, and not yet the third
abbrev pub pair_schema : Schema
pair_schema = record { tables = kept ∷ kept2 1 ∷ []; indexes = []; views = [] }

abbrev pub shard_schema : Schema
shard_schema = record { tables = kept ∷ kept2 1 ∷ layout 2 ∷ []; indexes = []; views = [] }

abbrev pub drop_text : List ℕ
drop_text = codes "DROP TABLE kept"

abbrev pub create_first_text : List ℕ
create_first_text = codes "CREATE TABLE kept (place INTEGER PRIMARY KEY, room TEXT NOT NULL, event TEXT NOT NULL, caller INTEGER NOT NULL)"

abbrev pub create_text : List ℕ
create_text = codes "CREATE TABLE kept2 (place INTEGER PRIMARY KEY, room TEXT NOT NULL, version TEXT NOT NULL, event TEXT NOT NULL, caller INTEGER NOT NULL)"

abbrev pub create_layout_text : List ℕ
create_layout_text = codes "CREATE TABLE layout (place INTEGER PRIMARY KEY, number INTEGER NOT NULL)"

abbrev pub insert_text : List ℕ
insert_text = codes "INSERT INTO kept2 (place, room, version, event, caller) VALUES (?1, ?2, ?3, ?4, ?5)"

abbrev pub insert_layout_text : List ℕ
insert_layout_text = codes "INSERT INTO layout (place, number) VALUES (1, 2)"

abbrev pub select_text : List ℕ
select_text = codes "SELECT place, room, version, event, caller FROM kept2 ORDER BY place"

abbrev pub select_layout_text : List ℕ
select_layout_text = codes "SELECT place, number FROM layout ORDER BY place"

-- the values that the statement is given
abbrev pub given_row : ℤ → List ℕ → RoomVersion → List ℕ → ℕ → Row
given_row place room version event caller = Int place ∷ Words room ∷ Words (version_text version) ∷ Words event ∷ Int (pos caller) ∷ []

-- SQLite refuses the row behind so many
abbrev pub RefusesKept : ShardRow → ℕ → State → Type 0
RefusesKept row count s = (event : List ℕ) × (event_of_text event ≡ Some row.event) × IsRefused insert_text (given_row (pos (count + 1)) row.room row.version event row.caller) s

-- the row as it is stored
abbrev pub stored : ℤ → List ℕ → RoomVersion → List ℕ → ℕ → Row
stored place room version event caller = Int place ∷ Null ∷ Words room ∷ Words (version_text version) ∷ Words event ∷ Int (pos caller) ∷ []

abbrev pub row_of_cells : Option (List ℕ) → Option RoomVersion → Option Data → Option ℕ → Option ShardRow
row_of_cells room version event caller =
    option_and_then (λ r. option_and_then (λ v. option_and_then (λ e. option_map (λ c. record { room = r; version = v; event = e; caller = c }) caller) event) version) room

-- a row as it is shown, at this place
abbrev pub read_shown : ℕ → Row → Option ShardRow
read_shown place v =
    at_place place v
    (row_of_cells (option_and_then room_of_text (text_in (column v 1))) (option_and_then version_of_text (text_in (column v 2))) (option_and_then event_of_text (text_in (column v 3))) (caller_in (column v 4)))

-- the columns that a row is read from, beside its place
abbrev pub row_columns : List ℕ
row_columns = 2 ∷ 3 ∷ 4 ∷ 5 ∷ []

-- all rows of the table
abbrev pub read_table : Trees → Option (List ShardRow)
read_table db = read_rows row_columns read_shown (db 1)

-- ---- the number of the layout

-- the number at this place
abbrev pub layout_shown : ℕ → Row → Option LayoutNumber
layout_shown place v = at_place place v (option_map (λ m. record { number = m }) (number_in (column v 1)))

abbrev pub layout_columns : List ℕ
layout_columns = 2 ∷ []

abbrev pub read_layout : Trees → Option (List LayoutNumber)
read_layout db = read_rows layout_columns layout_shown (db 2)

-- the one row of the layout, as it is stored
abbrev pub layout_row : Row
layout_row = Int (pos 1) ∷ Null ∷ Int (pos 2) ∷ []

abbrev pub is_second : List LayoutNumber → Bool
is_second [] = false
is_second (n ∷ []) = n.number == 2
is_second (n ∷ m ∷ more) = false

abbrev pub is_laid : Option (List FirstRow) → Option (List LayoutNumber) → Bool
is_laid None numbers = false
is_laid (Some (row ∷ rows)) numbers = false
is_laid (Some []) None = false
is_laid (Some []) (Some numbers) = is_second numbers

-- the second layout is stated, and the first table has no row
abbrev pub laid : Trees → Bool
laid db = is_laid (read_first db) (read_layout db)

-- all rows of a file of the second layout; none where it is not laid out so, or its rows do not read
abbrev pub read_shard : Trees → Option (List ShardRow)
read_shard db = if laid db then read_table db else None

-- ---- files that are brought to the second layout

-- a file of the first layout has its rows, each with the version of its room; a file with nothing has none
abbrev pub BeforeShard : Schema → Trees → List ShardRow → Type 0
BeforeShard schema db rows = ((schema ≡ kept_schema) × (read_versioned db ≡ Some rows)) ⊎ ((schema ≡ no_schema) × (rows ≡ []))

-- a statement of the move to the second layout: its text, and the row that it adds with its place, where it adds one
pub record MoveStep : Type 0 where
  pub text : List ℕ
  pub adds : Option (ℕ × ShardRow)

-- the values that it is given
abbrev pub IsGiven : Option (ℕ × ShardRow) → Row → Type 0
IsGiven None given = given ≡ []
IsGiven (Some (place, row)) given = (event : List ℕ) × (event_of_text event ≡ Some row.event)
    × (given ≡ given_row (pos place) row.room row.version event row.caller)

abbrev pub plain_step : List ℕ → MoveStep
plain_step text = record { text = text; adds = None }

-- the statements that make the tables where there is none
abbrev pub table_steps : List MoveStep
table_steps = plain_step create_first_text ∷ plain_step create_text ∷ plain_step create_layout_text ∷ []

-- the statements that add these rows, from this place on
abbrev pub row_steps : ℕ → List ShardRow → List MoveStep
row_steps place [] = []
row_steps place (row ∷ rows) = record { text = insert_text; adds = Some (place, row) } ∷ row_steps (place + 1) rows

-- the statement that states the number
abbrev pub number_steps : List MoveStep
number_steps = plain_step insert_layout_text ∷ []

-- all statements that make a file of the second layout with these rows, where there is no table
abbrev pub fill_steps : List ShardRow → List MoveStep
fill_steps rows = table_steps ++ (row_steps 1 rows ++ number_steps)

-- SQLite refuses one of these statements, over what those before it made of the database
abbrev pub RefusesOne : List MoveStep → State → Type 0
RefusesOne [] s = ⊥
RefusesOne (step ∷ more) s =
    (given : Row) × IsGiven step.adds given
    × (IsRefused step.text given s
    ⊎ ((after : Database) × IsDone step.text given s after × RefusesOne more (record s { now = after })))

-- SQLite refuses to lay a file out with these rows: to drop the first layout's table, where it is there, or what follows
abbrev pub RefusesLayout : List ShardRow → State → Type 0
RefusesLayout rows s = ((s.now.schema ≡ kept_schema) × RefusesOne (plain_step drop_text ∷ fill_steps rows) s)
    ⊎ ((s.now.schema ≡ no_schema) × RefusesOne (fill_steps rows) s)

-- SQLite refuses to bring the file to the second layout, with the rows that it has, in a transaction
abbrev pub RefusesMove : State → Type 0
RefusesMove s = (rows : List ShardRow) × BeforeShard s.now.schema s.committed.trees rows
    × RefusesLayout rows (record s { in_transaction = true })
