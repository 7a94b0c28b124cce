-- The table of a book's replies, and what its rows read as (our own).
use Rattle.std.specs.Prelude.{◌≡◌, ℕ, ◌+◌, ℤ, pos, true, false, [], ◌∷◌, codes, List, Option, option_and_then, option_map}
use Rattle.sqlite.specs.declared.types.Value.TheVariants.{Null, Int, Text as Words}
use Rattle.sqlite.specs.Kind.TheVariants.{Integer, Text}
use Rattle.sqlite.specs.Order.{Row, column}
use Rattle.sqlite.specs.Schema.{Schema}
use Rattle.sqlite.specs.State.{State}
use Rattle.sqlite.specs.Table.{Table}
use Rattle.sqlite.specs.Tree.{Trees}
use Rattle.sqlite_schema.specs.declared.schema.Index.{Index}
use Rattle.sqlite_value.specs.Keys.{plain}
use Rattle.mx_keeper.specs.Cells.{at_place, text_in, server_of_text}
use Rattle.mx_keeper.specs.Refusals.{IsRefused}
use Rattle.mx_keeper.specs.Schemas.{no_schema, plain_column, plain_table}
use Rattle.mx_keeper.specs.TableRows.{read_rows}
use Rattle.mx_keeper.specs.declared.rows.BookRow.{BookRow}

abbrev pub replies : Table
replies =
    plain_table (codes "replies") 0 (plain_column (codes "place") Integer false ∷ plain_column (codes "origin") Text true ∷ plain_column (codes "txn") Text true ∷ plain_column (codes "reply") Text true ∷ [])
    ((2 ∷ 3 ∷ []) ∷ []) (plain ∷ [])

-- the index of the pairs, which SQLite makes for UNIQUE
abbrev pub pairs : Index
pairs = record { name = codes "sqlite_autoindex_replies_1"; tree = 1; table = 0; columns = 2 ∷ 3 ∷ []; order = plain; is_unique = true }

abbrev pub replies_schema : Schema
replies_schema = record { tables = replies ∷ []; indexes = pairs ∷ []; views = [] }

abbrev pub create_text : List ℕ
create_text = codes "CREATE TABLE replies (place INTEGER PRIMARY KEY, origin TEXT NOT NULL, txn TEXT NOT NULL, reply TEXT NOT NULL, UNIQUE (origin, txn))"

abbrev pub insert_text : List ℕ
insert_text = codes "INSERT INTO replies (place, origin, txn, reply) VALUES (?1, ?2, ?3, ?4)"

-- the values that the statement is given
abbrev pub given_row : ℤ → List ℕ → List ℕ → List ℕ → Row
given_row place origin txn reply = Int place ∷ Words origin ∷ Words txn ∷ Words reply ∷ []

-- SQLite refuses the row behind so many
abbrev pub RefusesReply : BookRow → ℕ → State → Type 0
RefusesReply row count s = IsRefused insert_text (given_row (pos (count + 1)) row.origin row.txn row.reply) s

-- the row as it is stored
abbrev pub stored_reply : ℤ → List ℕ → List ℕ → List ℕ → Row
stored_reply place origin txn reply = Int place ∷ Null ∷ Words origin ∷ Words txn ∷ Words reply ∷ []

abbrev pub book_row : Option (List ℕ) → Option (List ℕ) → Option (List ℕ) → Option BookRow
book_row origin txn reply = option_and_then (λ o. option_and_then (λ t. option_map (λ r. record { origin = o; txn = t; reply = r }) reply) txn) origin

-- a row as it is shown, at this place
abbrev pub reply_shown : ℕ → Row → Option BookRow
reply_shown place v = at_place place v (book_row (option_and_then server_of_text (text_in (column v 1))) (text_in (column v 2)) (text_in (column v 3)))

-- the columns that a row is read from, beside its place
abbrev pub reply_columns : List ℕ
reply_columns = 2 ∷ 3 ∷ 4 ∷ []

abbrev pub select_text : List ℕ
select_text = codes "SELECT place, origin, txn, reply FROM replies ORDER BY place"

-- all rows of a file of replies
abbrev pub read_replies : Trees → Option (List BookRow)
read_replies db = read_rows reply_columns reply_shown (db 0)

-- a file with nothing has no reply
abbrev pub BeforeReplies : Schema → Trees → List BookRow → Type 0
BeforeReplies schema db rows = (schema ≡ no_schema) × (rows ≡ [])

-- SQLite refuses to make the table in a file with nothing
abbrev pub RefusesReplies : State → Type 0
RefusesReplies s = (s.now.schema ≡ no_schema) × IsRefused create_text [] s
