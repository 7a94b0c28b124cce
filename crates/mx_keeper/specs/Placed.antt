-- Laws of each kind of rows, with their proofs: a row that reads at a place has its number, and a file of its layout is none of an earlier one (our own).
use Rattle.std.specs.Prelude.{◌≡◌, ◌⊎◌, ℕ, true, pos, negsuc, ◌==◌, if◌then◌else◌, List, Option, Some, None, option_and_then, option_map}
use Rattle.std.proofs.Common.{ap, arith, inl, inr}
use Rattle.std.proofs.lemmas.Bool.{cases_Bool}
use Rattle.std.proofs.lemmas.Bool.Decides.{nat_tests}
use Rattle.sqlite.specs.declared.types.Value.{Value}
use Rattle.sqlite.specs.declared.types.Value.TheVariants.{Null, Int, Real, Text, Blob}
use Rattle.sqlite.specs.Order.{Row, column}
use Rattle.sqlite.specs.Schema.{Schema}
use Rattle.sqlite_trees.specs.Tree.{Trees, rowid}
use Rattle.mx_keeper.specs.BookTable.{BeforeReplies, book_row, replies_schema, reply_shown}
use Rattle.mx_keeper.specs.Cells.{caller_in, event_of_text, number_in, room_of_text, server_of_text, text_in, version_of_text}
use Rattle.mx_keeper.specs.FirstLayout.{first_row, first_shown, kept_schema}
use Rattle.mx_keeper.specs.Schemas.{no_schema}
use Rattle.mx_keeper.specs.ShardTable.{BeforeShard, shard_schema, layout_shown, read_shown, row_of_cells}
use Rattle.mx_keeper.specs.declared.rows.BookRow.{BookRow}
use Rattle.mx_keeper.specs.declared.tables.first_rows.FirstRow.{FirstRow}
use Rattle.mx_keeper.specs.declared.tables.layout_numbers.LayoutNumber.{LayoutNumber}
use Rattle.mx_keeper.specs.declared.rows.ShardRow.{ShardRow}

is_number : (m n : ℕ) → (m == n) ≡ true → m ≡ n
is_number m n h = grind (arith, nat_tests)

numbered : {X : Type 0} (n : ℕ) (o : Option X) (x : X) (v : Value) → option_and_then (λ m. if m == n then o else None) (number_in v) ≡ Some x → v ≡ Int (pos n)
numbered n o x Null h = absurd cc
numbered n o x (Int (pos m)) h = elim (cases_Bool (m == n)) [ inl same ↦ ap (λ k. Int (pos k)) (is_number m n same) | inr other ↦ absurd (let none = rw other at h in cc) ]
numbered n o x (Int (negsuc m)) h = absurd cc
numbered n o x (Real r) h = absurd cc
numbered n o x (Text t) h = absurd cc
numbered n o x (Blob b) h = absurd cc

pub row_placed : (n : ℕ) (v : Row) (x : ShardRow) → read_shown n v ≡ Some x → rowid v ≡ Int (pos n)
row_placed n v x h =
    numbered n (row_of_cells (option_and_then room_of_text (text_in (column v 1))) (option_and_then version_of_text (text_in (column v 2))) (option_and_then event_of_text (text_in (column v 3))) (caller_in (column v 4))) x (column v 0) h

pub first_placed : (n : ℕ) (v : Row) (x : FirstRow) → first_shown n v ≡ Some x → rowid v ≡ Int (pos n)
first_placed n v x h = numbered n (first_row (option_and_then room_of_text (text_in (column v 1))) (option_and_then event_of_text (text_in (column v 2))) (caller_in (column v 3))) x (column v 0) h

pub number_placed : (n : ℕ) (v : Row) (x : LayoutNumber) → layout_shown n v ≡ Some x → rowid v ≡ Int (pos n)
number_placed n v x h = numbered n (option_map (λ m. record { number = m }) (number_in (column v 1))) x (column v 0) h

pub reply_placed : (n : ℕ) (v : Row) (x : BookRow) → reply_shown n v ≡ Some x → rowid v ≡ Int (pos n)
reply_placed n v x h = numbered n (book_row (option_and_then server_of_text (text_in (column v 1))) (text_in (column v 2)) (text_in (column v 3))) x (column v 0) h

-- a file of this layout is none of an earlier one
pub shard_is_new : (db : Trees) (rows : List ShardRow) → ¬ (BeforeShard shard_schema db rows)
shard_is_new db rows (inl h) = absurd (let tables = ap (λ (s : Schema). s.tables) h.0 in cc)
shard_is_new db rows (inr h) = absurd (let tables = ap (λ (s : Schema). s.tables) h.0 in cc)

pub replies_are_new : (db : Trees) (rows : List BookRow) → ¬ (BeforeReplies replies_schema db rows)
replies_are_new db rows h = absurd (let tables = ap (λ (s : Schema). s.tables) h.0 in cc)

-- a file that has rows is of the first layout, or has nothing
pub first_or_empty : (schema : Schema) (db : Trees) (rows : List ShardRow) → BeforeShard schema db rows
    → (schema ≡ kept_schema) ⊎ (schema ≡ no_schema)
first_or_empty schema db rows (inl h) = inl h.0
first_or_empty schema db rows (inr h) = inr h.0

pub none_or_empty : (schema : Schema) (db : Trees) (rows : List BookRow) → BeforeReplies schema db rows
    → ⊥ ⊎ (schema ≡ no_schema)
none_or_empty schema db rows h = inr h.0
