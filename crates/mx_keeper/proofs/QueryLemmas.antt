-- What the SELECT of all rows of a table shows.
use Rattle.std.proofs.Common.{◌≡◌, ℕ, pos, List, [], ◌≢◌, ◌≤◌, IsTrue, Option, Some, inl, inr, sym, ap, subst, ◌∙◌}
use Rattle.sqlite.specs.declared.types.Value.TheVariants.{Null, Int}
use Rattle.sqlite_value.specs.Order.{Row}
use Rattle.sqlite_trees.specs.Tree.{Trees, rowid}
use Rattle.sqlite.specs.Listing.{understood}
use Rattle.sqlite.specs.Effect.{Database}
use Rattle.sqlite.specs.Schema.{Schema}
use Rattle.sqlite.specs.declared.error.Error.{Error}
use Rattle.sqlite.specs.declared.error.Error.TheVariants.{SqliteFailure}
use Rattle.sqlite.specs.declared.error.ErrorCode.TheVariants as code
use Rattle.sqlite.specs.State.{State, Shown, IsUnchanged, FailsToQuery, IsNotRun, CommitsShowing}
use Rattle.sqlite.proofs.Callers.{IsPlain, reads_as, unchanged_then, never_commits}
use Rattle.mx_keeper.specs.Connections.{IsIdle, MayRefuse, Stays}
use Rattle.mx_keeper.specs.Selecting.{IsSelect, IsWhole}
use Rattle.mx_keeper.specs.TableRows.{read_from, read_rows}
use Rattle.mx_keeper.proofs.AnswerLemmas.{answer_reads}
use Rattle.mx_keeper.proofs.RefusalLemmas.{not_run, refuses_query, refuses_later}
use Rattle.mx_keeper.proofs.StayLemmas.{stays_not_run, stays_same, stays_later, idle_later}

module _ {text : List ℕ} {schema : Schema} {tree : ℕ} {columns : List ℕ} (is_made : IsSelect text schema tree columns) where
  unchanged : (old new : State) (rows : List Row) → old.now.schema ≡ schema → Shown text [] old new rows → IsUnchanged old new
  unfolding Shown
  unchanged old new rows has h =
      let known = sym h.1.is ∙ ap (λ s. understood s text) has in
      let bare = subst IsPlain (sym known) is_made.plain in
      (rw bare.0 at h.2).3

  unchanged_or_rolled : (old new : State) (e : Error) → (IsTrue old.is_open → IsIdle old) → old.now.schema ≡ schema → FailsToQuery text [] old new e → IsTrue new.is_open → Stays old new
  unfolding FailsToQuery
  unchanged_or_rolled old new e idle has (inl h) live = stays_not_run old new idle text [] e h live
  unchanged_or_rolled old new e idle has (inr h) live =
      let known = sym h.1.is ∙ ap (λ s. understood s text) has in
      let bare = subst IsPlain (sym known) is_made.plain in
      stays_same old new idle (rw bare.0 at h.2).3

  module _ (before old : State) (idle : IsTrue before.is_open → IsIdle before) (has : IsTrue before.is_open → before.now.schema ≡ schema) (same : IsUnchanged before old) where
    known_now : old.now.schema ≡ schema
    known_now = ap (λ (d : Database). d.schema) same.0.now_is ∙ has same.0.was_open

    module _ {Kept : Type 0} (one : ℕ → Row → Option Kept) (placed : (n : ℕ) (r : Row) (x : Kept) → one n r ≡ Some x → rowid r ≡ Int (pos n)) where
      pub selects_then : (new : State) (sql : List ℕ) → sql ≡ text → (rows : List Row) → Shown sql [] old new rows
          → (read_from one 1 rows ≡ read_rows columns one (before.committed.trees tree)) × IsUnchanged before new
      selects_then new sql is rows h =
          let it = subst (λ t. Shown t [] old new rows) is h in
          let trees : old.now.trees tree ≡ before.committed.trees tree = ap (λ (d : Database). d.trees tree) (same.0.now_is ∙ (idle same.0.was_open).settled) in
          let got = reads_as text [] old new schema known_now _ is_made.command is_made.plain is_made.unlisted rows it in
          (answer_reads tree columns one placed old.now.trees rows (got.answer Null) ∙ ap (read_rows columns one) trees, unchanged_then before old new same (unchanged old new rows known_now it))

    pub fails_then : (new : State) (sql : List ℕ) → sql ≡ text → (e : Error) → FailsToQuery sql [] old new e → IsTrue new.is_open → Stays before new
    fails_then new sql is e h live =
        stays_later before old new same (unchanged_or_rolled old new e (idle_later before old idle same) known_now (subst (λ t. FailsToQuery t [] old new e) is h) live)

    pub never_then : (sql : List ℕ) → sql ≡ text → (db : Trees) → ¬ CommitsShowing sql [] old db
    never_then sql is db h = never_commits text [] old db (subst (λ s. IsPlain (understood s text)) (sym known_now) is_made.plain) (subst (λ t. CommitsShowing t [] old db) is h)

    pub refuses_then : (new : State) (sql : List ℕ) → sql ≡ text → (e : Error) → before.faults ≤ old.faults → old.step_limit ≡ before.step_limit → e ≢ SqliteFailure code.OutOfMemory → FailsToQuery sql [] old new e → MayRefuse before new
    refuses_then new sql is e few limit other h =
        let whole = subst (λ s. IsWhole text 0 (understood s text)) (sym known_now) is_made.whole in
        refuses_later before old new same few limit
        (refuses_query old new text (λ _. whole) schema known_now is_made.plain is_made.names tree columns is_made.command is_made.unlisted is_made.accepted e other (subst (λ t. FailsToQuery t [] old new e) is h))

-- why the connection does not prepare the query
pub refuses_unprepared : {text : List ℕ} {tree : ℕ} {columns : List ℕ} {HasTable : Schema → Type 0} → ((schema : Schema) → HasTable schema → IsSelect text schema tree columns) → (old new : State) → (IsTrue old.is_open → HasTable old.now.schema)
    → (e : Error) → e ≢ SqliteFailure code.OutOfMemory → (sql : List ℕ) → sql ≡ text → IsNotRun old new sql [] e → MayRefuse old new
refuses_unprepared {text} {tree} {columns} {HasTable} selects old new has e other sql is h = not_run old new text [] (λ live. (selects old.now.schema (has live)).whole) e other (subst (λ t. IsNotRun old new t [] e) is h)
