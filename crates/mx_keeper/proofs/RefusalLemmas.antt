-- Why SQLite refuses a statement.
use Rattle.std.proofs.Common.{◌≡◌, ◌⊎◌, ◌≢◌, ◌≤◌, ℕ, List, [], length, true, false, nat_le, Option, None, Some, IsSome, IsTrue, Ok, Err, inl, inr, sym, ap, subst, subst₂, ◌∙◌, append-nil, arith}
use Rattle.std.proofs.lemmas.Bool.Decides.{nat_tests}
use Rattle.sqlite.specs.Order.{Row}
use Rattle.sqlite.specs.declared.error.Error.{Error}
use Rattle.sqlite.specs.declared.error.Error.TheVariants.{SqliteFailure}
use Rattle.sqlite.specs.declared.error.ErrorCode.TheVariants as code
use Rattle.sqlite_trees.specs.declared.error.StoreError.{StoreError}
use Rattle.sqlite_trees.specs.declared.error.StoreError.TheVariants.{OutOfMemory, Io, Corrupt, Full, Broken, Unstorable}
use Rattle.sqlite_resolve.specs.declared.compiled.Compiled.{Compiled}
use Rattle.sqlite.specs.Command.{Command}
use Rattle.sqlite.specs.Command.TheVariants.{Select}
use Rattle.sqlite.specs.Schema.{Schema}
use Rattle.sqlite.specs.Effect.{Database, RefusesToRead}
use Rattle.sqlite.specs.Listing.{understood, reads_listing, IsSourceOf}
use Rattle.sqlite.specs.State.{State, store_error, shows_rows, mode_of, text_of, HasCause, IsMisplaced, IsNoStatement, IsNotRun, IsStatement, Executes, ExecutesIn, RunsCommand, FailsToQuery, IsUnchanged}
use Rattle.sqlite.specs.Does.{Does}
use Rattle.sqlite.proofs.Callers.{IsPlain, command_of}
use Rattle.sqlite_typing.specs.Types.{accepts_program}
use Rattle.mx_keeper.specs.Connections.{MayRefuse}
use Rattle.mx_keeper.specs.Refusals.{IsRefused}
use Rattle.mx_keeper.specs.Selecting.{IsWhole, query}

abbrev pub memory : Error
memory = SqliteFailure code.OutOfMemory

below : (a b : ℕ) → nat_le a b ≡ true → a ≤ b
below a b h = grind (arith, nat_tests)

is_statement : (s : State) (sql : List ℕ) (given : Row) (e : Error) → IsWhole sql (length given) (understood s.now.schema sql) → ¬ IsNoStatement s sql given e
is_statement s sql given e whole (inl h) = subst (IsWhole sql (length given)) h.1 whole
is_statement s sql given e whole (inr h) =
    let w = subst (IsWhole sql (length given)) h.1 whole in
    elim h.2 [ inl short ↦ short.0 (below (length sql) h.0.tail w.0) | inr more ↦ elim more [ inl other ↦ other.0 (sym w.1) | inr timed ↦ timed.0 w.2 ] ]

module _ (old new : State) where
  pub failed_or : (too_big : Type 0) (e : Error) → e ≢ memory → (cause : StoreError) → e ≡ store_error cause → HasCause old new too_big cause → MayRefuse old new ⊎ too_big
  failed_or too_big e other OutOfMemory is h = absurd (other is)
  failed_or too_big e other Io is h = inl (inr (inl h))
  failed_or too_big e other Corrupt is h = inl (inr (inl h))
  failed_or too_big e other Full is h = inl (inr (inl h))
  failed_or too_big e other Broken is h = inl (inl h)
  failed_or too_big e other Unstorable is h = inr h

  failed_by : (e : Error) → e ≢ memory → (cause : StoreError) → e ≡ store_error cause → HasCause old new ⊥ cause → MayRefuse old new
  failed_by e other cause is h = elim (failed_or ⊥ e other cause is h) [ inl why ↦ why | inr none ↦ absurd none ]

  module _ (sql : List ℕ) (given : Row) (whole : IsTrue old.is_open → IsWhole sql (length given) (understood old.now.schema sql)) where
    pub not_run : (e : Error) → e ≢ memory → IsNotRun old new sql given e → MayRefuse old new
    unfolding IsNotRun
    not_run e other (inl h) = absurd (is_statement old sql given e (whole h.1.0.was_open) h.0)
    not_run e other (inr h) = failed_by e other h.0 h.1 h.2

  module _ (sql : List ℕ) (whole : IsTrue old.is_open → IsWhole sql 0 (understood old.now.schema sql)) where
    module _ (schema : Schema) (has : old.now.schema ≡ schema) (plain : IsPlain (understood schema sql)) (names : List (List ℕ)) (tree : ℕ) (columns : List ℕ) (is : command_of (understood schema sql) ≡ Select (record { lets = []; body = query tree columns }) names) (unlisted : reads_listing schema sql ≡ false)
        (accepted : accepts_program schema [] (query tree columns) [] ≡ true) where
      only_limit : (limit : Option ℕ) (db : Database) (e : Error) → db.schema ≡ schema → RefusesToRead limit (Select (record { lets = []; body = query tree columns }) names) db [] e → IsSome limit
      only_limit limit db e known (inl h) = absurd (let both = sym accepted ∙ ap (λ s. accepts_program s [] (query tree columns) []) (sym known) ∙ h.1 in cc)
      only_limit limit db e known (inr (inl h)) = elim h.1 [ inl none ↦ absurd none | inr some ↦ absurd some.4 ]
      only_limit limit db e known (inr (inr h)) = h.1

      pub refuses_query : (e : Error) → e ≢ memory → FailsToQuery sql [] old new e → MayRefuse old new
      unfolding FailsToQuery
      refuses_query e other (inl h) = not_run sql [] whole e other h
      refuses_query e other (inr h) =
          let known = sym h.1.is ∙ ap (λ s. understood s sql) has in
          let bare = subst IsPlain (sym known) plain in
          let it = rw (bare.0, bare.1, append-nil {A = Rattle.sqlite.specs.declared.types.Value.Value} []) at h.2 in
          let db : it.0 ≡ old.now = subst (λ b. IsSourceOf b old.now it.0) (ap (λ s. reads_listing s sql) has ∙ unlisted) it.1 in
          let command : h.0.command ≡ Select (record { lets = []; body = query tree columns }) names = ap command_of known ∙ is in
          inr (inr (only_limit old.step_limit it.0 e (ap (λ (d : Database). d.schema) db ∙ has) (subst (λ k. RefusesToRead old.step_limit k it.0 [] e) command it.2)))

-- ---- statements that write

module _ (old new : State) (sql : List ℕ) (given : Row) (schema : Schema) (has : old.now.schema ≡ schema) (plain : IsPlain (understood schema sql)) (whole : IsWhole sql (length given) (understood schema sql))
    (command : Command) (is : command_of (understood schema sql) ≡ command) (placed : (s : State) (e : Error) → ¬ IsMisplaced s command e) (hidden : (c : Compiled) → c.command ≡ command → c.returning ≡ None → shows_rows false c ≡ false) where
  stopped : (c : Compiled) (it : IsStatement old sql given c) (e : Error) → e ≢ memory → c.command ≡ command → RunsCommand old new sql c given (Err e) → MayRefuse old new ⊎ IsRefused sql given old
  stopped c it e other same (inl (inl misplaced, unchanged)) = absurd (placed old e (subst (λ k. IsMisplaced old k e) same misplaced))
  stopped c it e other same (inl (inr (change, does), unchanged)) = inr (c, it, Some e, does)
  stopped c it e other same (inr (cause, named, why, undone, tells)) =
      elim (failed_or old new _ e other cause named why) [ inl may ↦ inl may | inr long ↦ inr (c, it, None, long) ]

  pub refuses_run : (e : Error) → e ≢ memory → Executes sql given old new (Err e) → MayRefuse old new ⊎ IsRefused sql given old
  unfolding ExecutesIn
  refuses_run e other (inl h) = inl (not_run old new sql given (λ _. subst (λ s. IsWhole sql (length given) (understood s sql)) (sym has) whole) e other h)
  refuses_run e other (inr h) =
      let known = sym h.1.is ∙ ap (λ s. understood s sql) has in
      let bare = subst IsPlain (sym known) plain in
      let same : h.0.command ≡ command = ap command_of known ∙ is in
      stopped h.0 h.1 e other same (rw (hidden h.0 same bare.0, bare.1, append-nil given) at h.2)

-- after a call that changed nothing
pub refuses_later : (old mid new : State) → IsUnchanged old mid → old.faults ≤ mid.faults → mid.step_limit ≡ old.step_limit → MayRefuse mid new → MayRefuse old new
refuses_later old mid new same few limit (inl h) = absurd (let both = sym h ∙ same.0.is_open in cc)
refuses_later old mid new same few limit (inr (inl h)) = inr (inl (omega arith))
refuses_later old mid new same few limit (inr (inr h)) = inr (inr (subst IsSome limit h))

-- a statement that is refused after a call that changed nothing
pub refused_later : (old mid : State) (sql : List ℕ) (given : Row) → IsUnchanged old mid → mid.step_limit ≡ old.step_limit → IsRefused sql given mid → IsRefused sql given old
refused_later old mid sql given same limit (c, it, stop, does) = (
  c,
  record { is = subst (λ (d : Database). understood d.schema sql ≡ Ok c) same.0.now_is it.is; whole = it.whole; given = it.given; now = it.now },
  stop,
  subst₂ (λ l d. Does l (mode_of old) given d (text_of sql c) c.returning c.command (Err stop)) limit same.0.now_is does,
)
