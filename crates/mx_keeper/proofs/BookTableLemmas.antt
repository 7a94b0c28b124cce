-- What the statements on the kept replies do.
use Rattle.std.proofs.Common.{◌≡◌, ℕ, ℤ, List, [], ◌∷◌, Bool, true, false, cond, None, Ok, refl, sym, ap, subst, ◌∙◌, Option}
use Rattle.std.specs.Fmt.{digits}
use Rattle.sqlite.specs.declared.types.Value.{Value}
use Rattle.sqlite.specs.declared.types.Value.TheVariants.{Null, Int}
use Rattle.sqlite.specs.Term.{Term, lit, col}
use Rattle.sqlite.specs.Source.TheVariants.{Values}
use Rattle.sqlite.specs.Command.TheVariants.{Insert, CreateTable}
use Rattle.sqlite.specs.Compile.{table_defined_by}
use Rattle.sqlite.specs.Listing.{understood}
use Rattle.sqlite_tied.specs.Compute.{everything}
use Rattle.sqlite.specs.Ops.{unary}
use Rattle.sqlite.specs.Kind.TheVariants.{Integer}
use Rattle.sqlite.specs.Edit.{edit_of, edited}
use Rattle.sqlite.specs.Cast.{cast}
use Rattle.sqlite.specs.Rowids.TheVariants.{Chosen}
use Rattle.sqlite.specs.Change.{created}
use Rattle.sqlite.specs.Does.{Tally, Does}
use Rattle.sqlite.specs.Rows.{Written}
use Rattle.sqlite.specs.Tree.{put_row}
use Rattle.sqlite.specs.Effect.{Database}
use Rattle.sqlite.specs.declared.run.Mode.{Mode}
use Rattle.sqlite.proofs.Callers.{IsPlain, command_of, statement_of, one_step}
use Rattle.mx_keeper.specs.Schemas.{no_schema}
use Rattle.mx_keeper.specs.BookTable.{create_text, given_row, insert_text, replies, replies_schema, stored_reply}
use Rattle.mx_keeper.specs.Connections.{IsPut}
use Rattle.mx_keeper.specs.Selecting.{IsWhole}
use Rattle.mx_keeper.proofs.TableLemmas.{IsCreated, IsInserted, insert, went, same_value}

abbrev terms : List Term
terms = col 0 0 ∷ lit Null ∷ col 0 1 ∷ col 0 2 ∷ col 0 3 ∷ []

create_is : (command_of (understood no_schema create_text) ≡ CreateTable) × (statement_of create_text (understood no_schema create_text) ≡ create_text) × (table_defined_by create_text ≡ Ok replies)
unfolding understood everything
create_is = (refl, refl, refl)

insert_is : command_of (understood replies_schema insert_text) ≡ Insert 0 (Values terms 5)
unfolding understood everything
insert_is = refl

create_plain : IsPlain (understood no_schema create_text)
unfolding understood everything
create_plain = (refl, refl)

insert_plain : IsPlain (understood replies_schema insert_text)
unfolding understood everything
insert_plain = (refl, refl)

create_whole : IsWhole create_text 0 (understood no_schema create_text)
unfolding understood everything
create_whole = (refl, refl, refl)

insert_whole : IsWhole insert_text 4 (understood replies_schema insert_text)
unfolding understood everything
insert_whole = (refl, refl, refl)

either : (b : Bool) (x : Value) → cond b x x ≡ x
either true x = refl
either false x = refl

cast_int : (n : ℤ) → cast Integer (Int n) ≡ Int n
unfolding unary
cast_int n = either _ (Int n)

made_schema : created no_schema replies ≡ replies_schema
unfolding digits
made_schema = refl

pub created_replies : IsCreated create_text no_schema replies replies_schema 0
created_replies = record { command = create_is.0; statement = create_is.1; defined = create_is.2; plain = create_plain; whole = create_whole; made = made_schema; next = refl; calm = refl }

cast_null : cast Integer Null ≡ Null
unfolding unary
cast_null = either _ Null

module _ (place : ℤ) (origin txn reply : List ℕ) where
  -- what the INSERT makes of a database
  does_add : (limit : Option ℕ) (mode : Mode) (old after : Database) (tally : Tally) (text : List ℕ) → old.schema ≡ replies_schema → Does limit mode (given_row place origin txn reply) old text None (insert 0 5 terms) (Ok (tally, after))
      → (after.schema ≡ replies_schema) × IsPut replies_schema 0 (stored_reply place origin txn reply) old.trees after.trees
  does_add limit mode old after tally text has h =
      let params = given_row place origin txn reply in
      let db = old.trees in
      let done = went (subst (λ s. Does limit mode params (record old { schema = s }) text None (insert 0 5 terms) (Ok (tally, after))) has h) in
      let now = ap (λ (p : Tally × Database). p.1) (same_value (went (went done.2).2).2) in
      let given = went done.1 in
      let written = went (went given.2).2 in
      let counted = went written.2 in
      let trees : done.0.trees ≡ written.0 = ap (λ (it : Written). it.trees) (same_value counted.2) ∙ same_value counted.1 in
      let step = one_step replies_schema _ db written.0 (edit_of db replies [] Chosen 0 given.0) refl written.1 in
      let edit : edited db (edit_of db replies [] Chosen 0 given.0) ≡ put_row (stored_reply place origin txn reply) (db 0) = ap (λ all. edited db (edit_of db replies [] Chosen 0 all)) given.1.1 ∙ rw (cast_int place, cast_null) refl in
      let all : after.trees ≡ written.0 = ap (λ (d : Database). d.trees) now ∙ trees in
      (ap (λ (d : Database). d.schema) now, subst (IsPut replies_schema 0 (stored_reply place origin txn reply) db) (sym all) (record { at = step.rows ∙ edit; others = step.others }))

  pub inserted_reply : IsInserted insert_text replies_schema 0 5 0 terms (given_row place origin txn reply) (stored_reply place origin txn reply)
  inserted_reply = record { command = insert_is; plain = insert_plain; whole = insert_whole; does = does_add }
