-- A statement that was refused changed nothing.
use Rattle.std.proofs.Common.{◌≡◌, subst, inl, inr, ℕ, List, Bool, true, false, Result, Ok, Err, IfOk, IfErr, OnErr, [], refl, sym, ap, ◌∙◌, IsTrue, Option}
use Rattle.std.proofs.lemmas.Bool.{cases_Bool}
use Rattle.sqlite.specs.Order.{Row}
use Rattle.sqlite.specs.declared.error.Error.{Error}
use Rattle.sqlite.specs.State.{State, IsUnchanged, IsRolledBack, IsNotRun, ExecutesIn, Executes, shows_rows}
use Rattle.sqlite.specs.Schema.{Schema}
use Rattle.sqlite.specs.Effect.{Database}
use Rattle.sqlite_trees.specs.View.{doubt}
use Rattle.sqlite_trees.proofs.Doubt.{no_doubt}
use Rattle.sqlite.specs.Tree.{Trees}
use Rattle.sqlite.specs.Effect.{IsDatabase}
use Rattle.mx_keeper.specs.Connections.{HasSchema, IsIdle, HasRows, Stays}

module _ (old new : State) where
  pub stays_unchanged : IsIdle old → IsUnchanged old new → Stays old new
  stays_unchanged idle same = record { was_open = same.0.was_open; now = same.0.now_is ∙ idle.settled; committed = same.0.committed_is; idle = same.0.mode ∙ idle.idle }

  pub stays_rolled : IsRolledBack old new → IsTrue new.is_open → Stays old new
  stays_rolled undone live = record { was_open = undone.was_open live; now = (undone.undone live).0; committed = (undone.undone live).1; idle = undone.autocommit }

  module _ (idle : IsTrue old.is_open → IsIdle old) where
    pub stays_same : IsUnchanged old new → Stays old new
    stays_same same = stays_unchanged (idle same.0.was_open) same

    pub stays_not_run : (sql : List ℕ) (params : Row) (e : Error) → IsNotRun old new sql params e → IsTrue new.is_open → Stays old new
    unfolding IsNotRun
    stays_not_run sql params e (inl h) live = stays_same h.1
    stays_not_run sql params e (inr h) live = stays_rolled h.3 live

    pub stays_prepared : {A : Type 0} (P : A → Type 0) (r : Result A Error) (sql : List ℕ) → IfOk r (λ a. P a × IsUnchanged old new) → IfErr r (λ e. (params : Row) → IsNotRun old new sql params e) → IsTrue new.is_open → Stays old new
    stays_prepared P (Ok a) sql ok err live = stays_same ok.1
    stays_prepared P (Err e) sql ok err live = stays_not_run sql [] e (err []) live

    pub stays_refused : (sql : List ℕ) (params : Row) (e : Error) → Executes sql params old new (Err e) → IsTrue new.is_open → Stays old new
    unfolding ExecutesIn
    stays_refused sql params e (inl h) live = stays_not_run sql params e h live
    stays_refused sql params e (inr h) live = elim (cases_Bool (shows_rows false h.0)) [
      | inl shows ↦ stays_same (rw shows at h.2).1
      | inr runs ↦ elim (rw runs at h.2) [
        | inl refused ↦ stays_same refused.1
        | inr failed ↦ stays_rolled failed.3 live
      ]
    ]

    pub stays_unless_run : (sql : List ℕ) (params : Row) (r : Result ℕ Error) → Executes sql params old new r → OnErr r (IsTrue new.is_open → Stays old new)
    stays_unless_run sql params (Ok count) h = tt
    stays_unless_run sql params (Err e) h = stays_refused sql params e h

  -- what stays is idle
  pub idle_after : Stays old new → IsIdle new
  idle_after s = record { idle = s.idle; settled = s.now ∙ sym s.committed }

-- after a call that changed nothing
pub stays_later : (old mid new : State) → IsUnchanged old mid → Stays mid new → Stays old new
stays_later old mid new same s = record {
  was_open = same.0.was_open;
  now = s.now ∙ same.0.committed_is;
  committed = s.committed ∙ same.0.committed_is;
  idle = s.idle;
}

pub idle_later : (old new : State) → (IsTrue old.is_open → IsIdle old) → IsUnchanged old new → IsTrue new.is_open → IsIdle new
idle_later old new idle same live =
    let was = idle same.0.was_open in
    record { idle = same.0.mode ∙ was.idle; settled = same.0.now_is ∙ was.settled ∙ sym same.0.committed_is }

pub stays_then : (old mid new : State) (idle : IsTrue old.is_open → IsIdle old) (same : IsUnchanged old mid) (sql : List ℕ) (params : Row) (r : Result ℕ Error) → Executes sql params mid new r
    → OnErr r (IsTrue new.is_open → Stays old new)
stays_then old mid new idle same sql params (Ok count) h = tt
stays_then old mid new idle same sql params (Err e) h = λ live.
    stays_later old mid new same (stays_refused mid new (idle_later old mid idle same) sql params e h live)

pub on_err : {A E P : Type 0} (r : Result A E) → P → OnErr r P
on_err (Ok a) p = tt
on_err (Err e) p = p

-- an open connection has a clean disk, by the law of its store
pub clean_if_open : (clean live : Bool) → (clean ≡ false → live ≡ false) → IsTrue live → doubt clean ≡ 0
clean_if_open true live shut h = no_doubt true refl
clean_if_open false live shut h = absurd (let none = shut refl in cc)

pub kept_stays : {Kept : Type 0} (schema : Schema) (read : Trees → Option (List Kept)) (count : ℕ) (old new : State) → HasRows schema read count old → Stays old new → HasRows schema read count new
kept_stays schema read count old new kept s = record {
  idle = idle_after old new s;
  known = ap (λ (d : Database). d.schema) (s.now ∙ sym kept.idle.settled) ∙ kept.known;
  all = kept.all;
  reads = ap (λ (d : Database). read d.trees) s.committed ∙ kept.reads;
  counted = kept.counted;
}

-- what a sound database leaves is a file with its schema
pub sound_at : (schema : Schema) (d : Database) (db : Trees) → IsDatabase d → d.schema ≡ schema → db ≡ d.trees → HasSchema schema db
sound_at schema d db sound is same = subst (HasSchema schema) (sym same) (subst (λ s. HasSchema s d.trees) is sound)
