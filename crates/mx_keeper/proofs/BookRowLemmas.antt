-- Rows of a book in their table.
use Rattle.std.proofs.Common.{◌≡◌, ℕ, ◌+◌, ℤ, pos, List, [], ◌∷◌, ◌++◌, length, Some, None, length-append, IsTrue, refl, sym, ap, ◌∙◌}
use Rattle.std.specs.Str.{is_utf8}
use Rattle.sqlite_trees.specs.Tree.{Trees, put_row}
use Rattle.sqlite.specs.State.{State}
use Rattle.mx_ident.specs.Identifier.{is_server_name, server_name_error}
use Rattle.mx_ident.specs.declared.refusals.NotAnId.{NotAnId}
use Rattle.mx_keeper.specs.Keeping.{with_row}
use Rattle.mx_keeper.specs.declared.rows.BookRow.{BookRow}
use Rattle.mx_keeper.specs.Cells.{server_of_text}
use Rattle.mx_keeper.specs.BookTable.{replies_schema, stored_reply, reply_columns, reply_shown, read_replies}
use Rattle.mx_keeper.specs.TableRows.{shown, read_rows}
use Rattle.mx_keeper.specs.Connections.{HasRows, IsPut, Puts}
use Rattle.mx_keeper.specs.Placed.{reply_placed}
use Rattle.mx_keeper.proofs.CellLemmas.{same_number}
use Rattle.mx_keeper.proofs.ReadLemmas.{one_more}

reads_stored : (n : ℕ) (row : BookRow) → IsTrue (is_utf8 row.origin) → IsTrue (is_server_name row.origin) → IsTrue (is_utf8 row.txn) → IsTrue (is_utf8 row.reply)
    → reply_shown n (shown reply_columns (stored_reply (pos n) row.origin row.txn row.reply)) ≡ Some row
reads_stored n row origin_utf8 origin txn reply = rw (same_number n, origin_utf8, origin, txn, reply) refl

module _ (count : ℕ) (old : State) (kept : HasRows replies_schema read_replies count old) (row : BookRow) (origin_utf8 : IsTrue (is_utf8 row.origin)) (origin : IsTrue (is_server_name row.origin)) (txn : IsTrue (is_utf8 row.txn)) (reply : IsTrue (is_utf8 row.reply))
    (place : ℤ) (at : place ≡ pos (count + 1)) where
  more : (db : Trees) → IsPut replies_schema 0 (stored_reply place row.origin row.txn row.reply) old.committed.trees db → read_replies db ≡ Some (kept.all ++ row ∷ [])
  more db put =
      let here : place ≡ pos (length kept.all + 1) = at ∙ ap (λ n. pos (n + 1)) (sym kept.counted) in
      let stands : stored_reply place row.origin row.txn row.reply ≡ stored_reply (pos (length kept.all + 1)) row.origin row.txn row.reply = rw here refl in
      ap (read_rows reply_columns reply_shown) (put.at ∙ ap (λ r. put_row r (old.committed.trees 0)) stands)
      ∙ one_more reply_columns reply_shown reply_placed (old.committed.trees 0) kept.all (stored_reply (pos (length kept.all + 1)) row.origin row.txn row.reply) row kept.reads refl
      (reads_stored (length kept.all + 1) row origin_utf8 origin txn reply)

  pub puts_one : (db : Trees) → IsPut replies_schema 0 (stored_reply place row.origin row.txn row.reply) old.committed.trees db → read_replies db ≡ with_row (read_replies old.committed.trees) row
  puts_one db put = more db put ∙ ap (λ rows. with_row rows row) (sym kept.reads)

  pub kept_with : (new : State) → Puts replies_schema (IsPut replies_schema 0 (stored_reply place row.origin row.txn row.reply) old.committed.trees) old new → HasRows replies_schema read_replies (count + 1) new
  kept_with new puts = record {
    idle = puts.idle;
    known = puts.known;
    all = kept.all ++ row ∷ [];
    reads = more new.committed.trees puts.trees_are;
    counted = length-append kept.all (row ∷ []) ∙ ap (λ n. n + 1) kept.counted;
  }

pub no_server : (t : List ℕ) (cause : NotAnId) → server_name_error t ≡ Some cause → server_of_text t ≡ None
no_server t cause is = rw is refl

-- a table that was made in a file with nothing
pub made_empty : (db : Trees) → db 0 ≡ [] → read_replies db ≡ Some []
made_empty db none = ap (read_rows reply_columns reply_shown) none
