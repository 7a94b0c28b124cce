-- What the statements on a shard's tables do.
use Rattle.std.proofs.Common.{◌≡◌, ◌≢◌, ◌⊎◌, ℕ, ℤ, pos, List, [], ◌∷◌, Bool, true, false, cond, None, Ok, Err, inl, inr, refl, sym, ap, subst, ◌∙◌, Option}
use Rattle.sqlite.specs.declared.types.Value.{Value}
use Rattle.sqlite.specs.declared.types.Value.TheVariants.{Null, Int}
use Rattle.sqlite.specs.declared.error.Error.{Error}
use Rattle.sqlite.specs.Term.{Term, lit, col}
use Rattle.sqlite.specs.Command.TheVariants.{CreateTable, DropTable}
use Rattle.sqlite.specs.Compile.{table_defined_by}
use Rattle.sqlite.specs.Listing.{understood}
use Rattle.sqlite_tied.specs.Compute.{everything}
use Rattle.sqlite.specs.Ops.{unary}
use Rattle.sqlite.specs.Kind.TheVariants.{Integer}
use Rattle.sqlite.specs.Edit.{edit_of, edited}
use Rattle.sqlite.specs.Cast.{cast}
use Rattle.sqlite.specs.Rowids.TheVariants.{Chosen}
use Rattle.sqlite.specs.Does.{Tally, Does}
use Rattle.sqlite.specs.Rows.{Written}
use Rattle.sqlite.specs.Tree.{put_row}
use Rattle.sqlite.specs.Effect.{Database, IsDatabase}
use Rattle.sqlite.specs.State.{State, mode_of, shows_rows, Executes, IsMisplaced}
use Rattle.sqlite.specs.declared.run.Mode.{Mode}
use Rattle.sqlite.proofs.Callers.{IsPlain, command_of, statement_of, one_step, runs_as}
use Rattle.sqlite_resolve.specs.declared.compiled.Compiled.{Compiled}
use Rattle.mx_auth.specs.declared.versions.RoomVersion.{RoomVersion}
use Rattle.mx_keeper.specs.Connections.{IsPut, MayRefuse}
use Rattle.mx_keeper.specs.FirstLayout.{kept, kept_schema}
use Rattle.mx_keeper.specs.Refusals.{IsRefused}
use Rattle.mx_keeper.specs.Selecting.{IsWhole}
use Rattle.mx_keeper.specs.ShardTable.{create_first_text, create_layout_text, create_text, drop_text, given_row, insert_layout_text, insert_text, kept2, layout, layout_row, pair_schema, shard_schema, stored}
use Rattle.mx_keeper.specs.Schemas.{no_schema}
use Rattle.mx_keeper.proofs.RefusalLemmas.{memory, refuses_run}
use Rattle.mx_keeper.proofs.TableLemmas.{IsCreated, IsInserted, insert, went, same_value}

-- ---- the tables are made

first_is : (command_of (understood no_schema create_first_text) ≡ CreateTable) × (statement_of create_first_text (understood no_schema create_first_text) ≡ create_first_text) × (table_defined_by create_first_text ≡ Ok kept)
unfolding understood everything
first_is = (refl, refl, refl)

first_plain : IsPlain (understood no_schema create_first_text) × IsWhole create_first_text 0 (understood no_schema create_first_text)
unfolding understood everything
first_plain = ((refl, refl), (refl, refl, refl))

pub created_first : IsCreated create_first_text no_schema kept kept_schema 0
created_first = record { command = first_is.0; statement = first_is.1; defined = first_is.2; plain = first_plain.0; whole = first_plain.1; made = refl; next = refl; calm = refl }

second_is : (command_of (understood kept_schema create_text) ≡ CreateTable) × (statement_of create_text (understood kept_schema create_text) ≡ create_text) × (table_defined_by create_text ≡ Ok (kept2 0))
unfolding understood everything
second_is = (refl, refl, refl)

second_plain : IsPlain (understood kept_schema create_text) × IsWhole create_text 0 (understood kept_schema create_text)
unfolding understood everything
second_plain = ((refl, refl), (refl, refl, refl))

pub created_second : IsCreated create_text kept_schema (kept2 0) pair_schema 1
created_second = record { command = second_is.0; statement = second_is.1; defined = second_is.2; plain = second_plain.0; whole = second_plain.1; made = refl; next = refl; calm = refl }

third_is : (command_of (understood pair_schema create_layout_text) ≡ CreateTable) × (statement_of create_layout_text (understood pair_schema create_layout_text) ≡ create_layout_text) × (table_defined_by create_layout_text ≡ Ok (layout 0))
unfolding understood everything
third_is = (refl, refl, refl)

third_plain : IsPlain (understood pair_schema create_layout_text) × IsWhole create_layout_text 0 (understood pair_schema create_layout_text)
unfolding understood everything
third_plain = ((refl, refl), (refl, refl, refl))

pub created_layout : IsCreated create_layout_text pair_schema (layout 0) shard_schema 2
created_layout = record { command = third_is.0; statement = third_is.1; defined = third_is.2; plain = third_plain.0; whole = third_plain.1; made = refl; next = refl; calm = refl }

-- ---- rows are added

abbrev pub terms : List Term
terms = col 0 0 ∷ lit Null ∷ col 0 1 ∷ col 0 2 ∷ col 0 3 ∷ col 0 4 ∷ []

abbrev pub number_terms : List Term
number_terms = lit (Int (pos 1)) ∷ lit Null ∷ lit (Int (pos 2)) ∷ []

insert_is : command_of (understood shard_schema insert_text) ≡ insert 1 6 terms
unfolding understood everything
insert_is = refl

insert_plain : IsPlain (understood shard_schema insert_text) × IsWhole insert_text 5 (understood shard_schema insert_text)
unfolding understood everything
insert_plain = ((refl, refl), (refl, refl, refl))

number_is : command_of (understood shard_schema insert_layout_text) ≡ insert 2 3 number_terms
unfolding understood everything
number_is = refl

number_plain : IsPlain (understood shard_schema insert_layout_text) × IsWhole insert_layout_text 0 (understood shard_schema insert_layout_text)
unfolding understood everything
number_plain = ((refl, refl), (refl, refl, refl))

either : (b : Bool) (x : Value) → cond b x x ≡ x
either true x = refl
either false x = refl

cast_int : (n : ℤ) → cast Integer (Int n) ≡ Int n
unfolding unary
cast_int n = either _ (Int n)

cast_null : cast Integer Null ≡ Null
unfolding unary
cast_null = either _ Null

module _ (place : ℤ) (room : List ℕ) (version : RoomVersion) (event : List ℕ) (caller : ℕ) where
  -- what the INSERT makes of a database
  does_add : (limit : Option ℕ) (mode : Mode) (old after : Database) (tally : Tally) (text : List ℕ) → old.schema ≡ shard_schema → Does limit mode (given_row place room version event caller) old text None (insert 1 6 terms) (Ok (tally, after))
      → (after.schema ≡ shard_schema) × IsPut shard_schema 1 (stored place room version event caller) old.trees after.trees
  does_add limit mode old after tally text has h =
      let params = given_row place room version event caller in
      let db = old.trees in
      let done = went (subst (λ s. Does limit mode params (record old { schema = s }) text None (insert 1 6 terms) (Ok (tally, after))) has h) in
      let now = ap (λ (p : Tally × Database). p.1) (same_value (went (went done.2).2).2) in
      let given = went done.1 in
      let written = went (went given.2).2 in
      let counted = went written.2 in
      let trees : done.0.trees ≡ written.0 = ap (λ (it : Written). it.trees) (same_value counted.2) ∙ same_value counted.1 in
      let step = one_step shard_schema _ db written.0 (edit_of db (kept2 1) [] Chosen 0 given.0) refl written.1 in
      let edit : edited db (edit_of db (kept2 1) [] Chosen 0 given.0) ≡ put_row (stored place room version event caller) (db 1) = ap (λ all. edited db (edit_of db (kept2 1) [] Chosen 0 all)) given.1.1 ∙ rw (cast_int place, cast_null, cast_int (pos caller)) refl in
      let all : after.trees ≡ written.0 = ap (λ (d : Database). d.trees) now ∙ trees in
      (ap (λ (d : Database). d.schema) now, subst (IsPut shard_schema 1 (stored place room version event caller) db) (sym all) (record { at = step.rows ∙ edit; others = step.others }))

  pub inserted_kept : IsInserted insert_text shard_schema 1 6 1 terms (given_row place room version event caller) (stored place room version event caller)
  inserted_kept = record { command = insert_is; plain = insert_plain.0; whole = insert_plain.1; does = does_add }

-- what the INSERT of the number makes of a database
does_number : (limit : Option ℕ) (mode : Mode) (old after : Database) (tally : Tally) (text : List ℕ) → old.schema ≡ shard_schema → Does limit mode [] old text None (insert 2 3 number_terms) (Ok (tally, after))
    → (after.schema ≡ shard_schema) × IsPut shard_schema 2 layout_row old.trees after.trees
does_number limit mode old after tally text has h =
    let db = old.trees in
    let done = went (subst (λ s. Does limit mode [] (record old { schema = s }) text None (insert 2 3 number_terms) (Ok (tally, after))) has h) in
    let now = ap (λ (p : Tally × Database). p.1) (same_value (went (went done.2).2).2) in
    let given = went done.1 in
    let written = went (went given.2).2 in
    let counted = went written.2 in
    let trees : done.0.trees ≡ written.0 = ap (λ (it : Written). it.trees) (same_value counted.2) ∙ same_value counted.1 in
    let step = one_step shard_schema _ db written.0 (edit_of db (layout 2) [] Chosen 0 given.0) refl written.1 in
    let edit : edited db (edit_of db (layout 2) [] Chosen 0 given.0) ≡ put_row layout_row (db 2) = ap (λ all. edited db (edit_of db (layout 2) [] Chosen 0 all)) given.1.1 ∙ rw (cast_int (pos 1), cast_null, cast_int (pos 2)) refl in
    let all : after.trees ≡ written.0 = ap (λ (d : Database). d.trees) now ∙ trees in
    (ap (λ (d : Database). d.schema) now, subst (IsPut shard_schema 2 layout_row db) (sym all) (record { at = step.rows ∙ edit; others = step.others }))

pub inserted_number : IsInserted insert_layout_text shard_schema 2 3 2 number_terms [] layout_row
inserted_number = record { command = number_is; plain = number_plain.0; whole = number_plain.1; does = does_number }

-- ---- the first table is dropped

pub drop_is : command_of (understood kept_schema drop_text) ≡ DropTable 0
unfolding understood everything
drop_is = refl

pub drop_plain : IsPlain (understood kept_schema drop_text) × IsWhole drop_text 0 (understood kept_schema drop_text)
unfolding understood everything
drop_plain = ((refl, refl), (refl, refl, refl))

does_drop : (limit : Option ℕ) (mode : Mode) (old after : Database) (tally : Tally) (text : List ℕ) → old.schema ≡ kept_schema → Does limit mode [] old text None (DropTable 0) (Ok (tally, after)) → after.schema ≡ no_schema
does_drop limit mode old after tally text has h =
    let emptied = went (subst (λ s. Does limit mode [] (record old { schema = s }) text None (DropTable 0) (Ok (tally, after))) has h) in
    let left = went (went (went emptied.2).2).2 in
    let now = ap (λ (p : Tally × Database). p.1) (same_value left.2) in
    ap (λ (d : Database). d.schema) now ∙ left.1.0

drop_placed : (s : State) (e : Error) → ¬ IsMisplaced s (DropTable 0) e
drop_placed s e (inl (is, inl (same, begun))) = absurd (let bad = same in cc)
drop_placed s e (inl (is, inr (inl same, begun))) = absurd (let bad = same in cc)
drop_placed s e (inl (is, inr (inr same, begun))) = absurd (let bad = same in cc)
drop_placed s e (inr (is, name, inl same, named)) = absurd (let bad = same in cc)
drop_placed s e (inr (is, name, inr same, named)) = absurd (let bad = same in cc)

drop_hidden : (c : Compiled) → c.command ≡ DropTable 0 → c.returning ≡ None → shows_rows false c ≡ false
drop_hidden c is none = rw (is, none) refl

pub dropped_by : (old new : State) (count : ℕ) → old.now.schema ≡ kept_schema → Executes drop_text [] old new (Ok count) → IsDatabase new.now × (new.now.schema ≡ no_schema)
dropped_by old new count has h =
    let w = runs_as drop_text [] old new kept_schema has (DropTable 0) drop_is drop_plain.0 count h in
    (w.sound, does_drop old.step_limit (mode_of old) old.now new.now w.tally (statement_of drop_text (understood kept_schema drop_text)) has w.changed)

pub refused_to_drop : (old new : State) → old.now.schema ≡ kept_schema → (e : Error) → e ≢ memory → Executes drop_text [] old new (Err e) → MayRefuse old new ⊎ IsRefused drop_text [] old
refused_to_drop old new has e other h = refuses_run old new drop_text [] kept_schema has drop_plain.0 drop_plain.1 (DropTable 0) drop_is drop_placed drop_hidden e other h
