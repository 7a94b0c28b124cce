-- The table of a shard's file in the first layout, and what its rows read as (our own).
use Rattle.std.specs.Prelude.{ℕ, true, false, [], ◌∷◌, ◌++◌, if◌then◌else◌, bytes_eq, codes, find, List, Option, Some, None, option_and_then, option_map}
use Rattle.serde_json.specs.Data.{Data}
use Rattle.sqlite.specs.Kind.TheVariants.{Integer, Text}
use Rattle.sqlite.specs.Order.{Row, column}
use Rattle.sqlite.specs.Schema.{Schema}
use Rattle.sqlite.specs.Table.{Table}
use Rattle.sqlite.specs.Tree.{Trees}
use Rattle.mx_auth.specs.Versions.{version_of}
use Rattle.mx_auth.specs.declared.versions.RoomVersion.{RoomVersion}
use Rattle.mx_keeper.specs.Cells.{at_place, caller_in, text_in, room_of_text, event_of_text}
use Rattle.mx_keeper.specs.Schemas.{plain_column, plain_table}
use Rattle.mx_keeper.specs.TableRows.{read_rows}
use Rattle.mx_keeper.specs.declared.tables.first_rows.FirstRow.{FirstRow}
use Rattle.mx_keeper.specs.declared.rows.ShardRow.{ShardRow}
use Rattle.mx_pdu.specs.Event.{has_kind}

abbrev pub kept : Table
kept = plain_table (codes "kept") 0 (plain_column (codes "place") Integer false ∷ plain_column (codes "room") Text true ∷ plain_column (codes "event") Text true ∷ plain_column (codes "caller") Integer true ∷ []) [] []

abbrev pub kept_schema : Schema
kept_schema = record { tables = kept ∷ []; indexes = []; views = [] }

abbrev pub first_row : Option (List ℕ) → Option Data → Option ℕ → Option FirstRow
first_row room event caller = option_and_then (λ r. option_and_then (λ e. option_map (λ c. record { room = r; event = e; caller = c }) caller) event) room

-- a row as it is shown, at this place
abbrev pub first_shown : ℕ → Row → Option FirstRow
first_shown place v = at_place place v (first_row (option_and_then room_of_text (text_in (column v 1))) (option_and_then event_of_text (text_in (column v 2))) (caller_in (column v 3)))

-- the columns that a row is read from, beside its place
abbrev pub first_columns : List ℕ
first_columns = 2 ∷ 3 ∷ 4 ∷ []

abbrev pub first_select_text : List ℕ
first_select_text = codes "SELECT place, room, event, caller FROM kept ORDER BY place"

-- all rows of the table
abbrev pub read_first : Trees → Option (List FirstRow)
read_first db = read_rows first_columns first_shown (db 0)

-- the version that a create event names
abbrev pub created_version : Data → Option RoomVersion
created_version event = if has_kind (codes "m.room.create") event then version_of event else None

-- what the first row of a room among these names as its version
abbrev pub version_among : List FirstRow → List ℕ → Option (Option RoomVersion)
version_among rows room = option_map (λ (row : FirstRow). created_version row.event) (find (λ (row : FirstRow). bytes_eq row.room room) rows)

abbrev pub flat : {A : Type 0} → Option (Option A) → Option A
flat None = None
flat (Some x) = x

abbrev pub with_version : FirstRow → RoomVersion → ShardRow
with_version row version = record { room = row.room; version = version; event = row.event; caller = row.caller }

-- rows behind others, each with the version of its room's create event, which is the first row of the room
abbrev pub with_versions : List FirstRow → List FirstRow → Option (List ShardRow)
with_versions earlier [] = Some []
with_versions earlier (r ∷ rs) =
    option_and_then (λ version. option_map (λ more. with_version r version ∷ more) (with_versions (earlier ++ r ∷ []) rs)) (flat (version_among (earlier ++ r ∷ []) r.room))

-- all rows of a file of the first layout, each with its version
abbrev pub read_versioned : Trees → Option (List ShardRow)
read_versioned db = option_and_then (with_versions []) (read_first db)
