-- Rows of a shard in their table.
use Rattle.std.proofs.Common.{◌≡◌, ℕ, ◌+◌, ◌<◌, ◌^◌, ℤ, pos, List, [], ◌∷◌, ◌++◌, length, Option, Some, None, Bool, true, false, cond, length-append, IsTrue, refl, sym, ap, ap₂, ◌∙◌, inl, inr, arith}
use Rattle.std.specs.Str.{chars, is_utf8}
use Rattle.std.proofs.lemmas.Bool.{cases_Bool}
use Rattle.sqlite_value.specs.Order.{Row}
use Rattle.sqlite_trees.specs.Tree.{Trees, put_row}
use Rattle.sqlite.specs.State.{State}
use Rattle.serde_json.specs.Data.{Data}
use Rattle.mx_auth.specs.Versions.{version_text}
use Rattle.mx_auth.specs.declared.versions.RoomVersion.{RoomVersion}
use Rattle.mx_auth.specs.declared.versions.RoomVersion.TheVariants.{V6, V7}
use Rattle.mx_ident.specs.Identifier.{is_room_id}
use Rattle.mx_keeper.specs.Keeping.{with_row}
use Rattle.mx_keeper.specs.declared.rows.ShardRow.{ShardRow}
use Rattle.mx_keeper.specs.Cells.{event_of_text, version_of_text}
use Rattle.mx_keeper.specs.FirstLayout.{first_columns, first_shown}
use Rattle.mx_keeper.specs.ShardTable.{is_laid, laid, layout_columns, layout_shown, row_columns, shard_schema, read_shard, read_shown, read_table, stored}
use Rattle.mx_keeper.specs.TableRows.{shown, read_rows}
use Rattle.mx_keeper.specs.Connections.{HasRows, IsPut, Puts}
use Rattle.mx_keeper.specs.Placed.{row_placed}
use Rattle.mx_keeper.proofs.CellLemmas.{is_low, same_number}
use Rattle.mx_keeper.proofs.ReadLemmas.{one_more}

valid_event : (t : List ℕ) (e : Data) → event_of_text t ≡ Some e → IsTrue (is_utf8 t)
unfolding event_of_text
valid_event t e is = elim (cases_Bool (is_utf8 t)) [ inl valid ↦ valid | inr other ↦ absurd (let none = rw other at is in cc) ]

valid_version : (v : RoomVersion) → is_utf8 (version_text v) ≡ true
unfolding is_utf8 chars lib.Utf8.encode
valid_version V6 = refl
valid_version V7 = refl

named_version : (v : RoomVersion) → version_of_text (version_text v) ≡ Some v
named_version V6 = refl
named_version V7 = refl

pub reads_stored : (n : ℕ) (row : ShardRow) (event : List ℕ) → IsTrue (is_utf8 row.room) → IsTrue (is_room_id row.room) → IsTrue (is_utf8 event) → event_of_text event ≡ Some row.event → row.caller < 2 ^ 32
    → read_shown n (shown row_columns (stored (pos n) row.room row.version event row.caller)) ≡ Some row
reads_stored n row event room_utf8 room event_utf8 is low = rw (same_number n, room_utf8, room, valid_version row.version, named_version row.version, event_utf8, is, is_low row.caller low) refl

-- rows that read, in a file that is laid out so
pub read_parts : (b : Bool) (o : Option (List ShardRow)) (all : List ShardRow) → cond b o None ≡ Some all → IsTrue b × (o ≡ Some all)
read_parts true o all h = (refl, h)
read_parts false o all h = absurd cc

pub read_again : (db : Trees) (all : List ShardRow) → IsTrue (laid db) → read_table db ≡ Some all → read_shard db ≡ Some all
read_again db all is rows = rw (is, rows) refl

-- the table of the rows alone is changed
module _ (row : Row) (old new : Trees) (put : IsPut shard_schema 1 row old new) where
  pub laid_still : laid new ≡ laid old
  laid_still = ap₂ is_laid (ap (read_rows first_columns first_shown) (put.others 0 (λ e. absurd cc) tt)) (ap (read_rows layout_columns layout_shown) (put.others 2 (λ e. absurd cc) tt))

module _ (all : List ShardRow) (old : Trees) (reads : read_table old ≡ Some all) (row : ShardRow) (event : List ℕ) (room_utf8 : IsTrue (is_utf8 row.room)) (room : IsTrue (is_room_id row.room)) (is : event_of_text event ≡ Some row.event)
    (place : ℤ) (caller : ℕ) (at : place ≡ pos (length all + 1)) (by : (caller ≡ row.caller) × (caller < 2 ^ 32)) where
  -- one row more, at the next place
  pub table_more : (db : Trees) → IsPut shard_schema 1 (stored place row.room row.version event caller) old db → read_table db ≡ Some (all ++ row ∷ [])
  table_more db put =
      let stands : stored place row.room row.version event caller ≡ stored (pos (length all + 1)) row.room row.version event row.caller = rw (at, by.0) refl in
      ap (read_rows row_columns read_shown) (put.at ∙ ap (λ r. put_row r (old 1)) stands)
      ∙ one_more row_columns read_shown row_placed (old 1) all (stored (pos (length all + 1)) row.room row.version event row.caller) row reads refl
      (reads_stored (length all + 1) row event room_utf8 room (valid_event event row.event is) is (let low : row.caller < 2 ^ 32 = omega (arith, by.0, by.1) in low))

module _ (count : ℕ) (old : State) (kept : HasRows shard_schema read_shard count old) (row : ShardRow) (event : List ℕ) (room_utf8 : IsTrue (is_utf8 row.room)) (room : IsTrue (is_room_id row.room)) (is : event_of_text event ≡ Some row.event)
    (place : ℤ) (caller : ℕ) (at : place ≡ pos (count + 1)) (by : (caller ≡ row.caller) × (caller < 2 ^ 32)) where
  more : (db : Trees) → IsPut shard_schema 1 (stored place row.room row.version event caller) old.committed.trees db → read_shard db ≡ Some (kept.all ++ row ∷ [])
  more db put =
      let it = read_parts (laid old.committed.trees) (read_table old.committed.trees) kept.all kept.reads in
      let here : place ≡ pos (length kept.all + 1) = at ∙ ap (λ n. pos (n + 1)) (sym kept.counted) in
      read_again db (kept.all ++ row ∷ []) (laid_still _ old.committed.trees db put ∙ it.0)
      (table_more kept.all old.committed.trees it.1 row event room_utf8 room is place caller here by db put)

  pub puts_one : (db : Trees) → IsPut shard_schema 1 (stored place row.room row.version event caller) old.committed.trees db → read_shard db ≡ with_row (read_shard old.committed.trees) row
  puts_one db put = more db put ∙ ap (λ rows. with_row rows row) (sym kept.reads)

  pub kept_with : (new : State) → Puts shard_schema (IsPut shard_schema 1 (stored place row.room row.version event caller) old.committed.trees) old new → HasRows shard_schema read_shard (count + 1) new
  kept_with new puts = record {
    idle = puts.idle;
    known = puts.known;
    all = kept.all ++ row ∷ [];
    reads = more new.committed.trees puts.trees_are;
    counted = length-append kept.all (row ∷ []) ∙ ap (λ n. n + 1) kept.counted;
  }
