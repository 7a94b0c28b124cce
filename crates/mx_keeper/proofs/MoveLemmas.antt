-- The statements that bring a file to the second layout.
use Rattle.std.proofs.Common.{arith, Bool, ◌≡◌, ◌≢◌, ◌⊎◌, ◌≤◌, ◌<◌, ◌^◌, ◌+◌, ℕ, ℤ, pos, List, [], ◌∷◌, ◌++◌, length, true, false, Option, Some, None, Result, Ok, Err, IsTrue, inl, inr, refl, sym, ap, ap₂, subst, subst₂, ◌∙◌}
use Rattle.std.specs.Prelude.{⊤}
use Rattle.std.specs.Str.{is_utf8}
use Rattle.std.proofs.lemmas.Bool.{cases_Bool}
use Rattle.sqlite.specs.Order.{Row}
use Rattle.sqlite.specs.Schema.{Schema}
use Rattle.sqlite.specs.Table.{Table}
use Rattle.sqlite.specs.Term.{Term}
use Rattle.sqlite.specs.Effect.{Database, IsDatabase}
use Rattle.sqlite.specs.Tree.{Trees, put_row}
use Rattle.sqlite.specs.Command.{Command}
use Rattle.sqlite.specs.Command.TheVariants.{CreateTable, DropTable}
use Rattle.sqlite.specs.Listing.{understood}
use Rattle.sqlite.specs.State.{State, Executes, ExecutesIn, ExecutesInside, EndsScope, Escapes, HasCleanDisk, IsStatement, Runs, Survives, Writes, mode_of, text_of}
use Rattle.sqlite_resolve.specs.declared.compiled.Compiled.{Compiled}
use Rattle.sqlite.specs.Does.{Does}
use Rattle.sqlite.specs.declared.error.Error.{Error}
use Rattle.sqlite.proofs.Callers.{IsPlain, command_of, runs_as, statement_of}
use Rattle.mx_ident.specs.Identifier.{is_room_id}
use Rattle.mx_keeper.specs.Cells.{event_of_text}
use Rattle.mx_keeper.specs.Connections.{IsPut, MayRefuse}
use Rattle.mx_keeper.specs.Keeping.{with_row}
use Rattle.mx_keeper.specs.FirstLayout.{kept_schema, first_columns, first_shown}
use Rattle.mx_keeper.specs.Moving.{AreDone, AreEmpty, Changes, HasOneMore, HasRun, HasTheseRows, IsInside, IsStopped, ReadsSoMany, drop_steps}
use Rattle.mx_keeper.specs.Refusals.{IsDone, IsRefused}
use Rattle.mx_keeper.specs.Schemas.{no_schema}
use Rattle.mx_keeper.specs.ShardTable.{IsGiven, MoveStep, RefusesLayout, RefusesOne, drop_text, fill_steps, given_row, insert_layout_text, insert_text, is_laid, laid, layout_columns, layout_row, layout_shown, number_steps, pair_schema, plain_step, read_shard, read_shown, read_table, row_columns, row_steps, shard_schema, stored}
use Rattle.mx_keeper.specs.TableRows.{read_rows}
use Rattle.mx_keeper.specs.declared.rows.ShardRow.{ShardRow}
use Rattle.mx_keeper.proofs.KeeperLemmas.{refuses_after}
use Rattle.mx_keeper.proofs.RefusalLemmas.{memory}
use Rattle.mx_keeper.proofs.ShardRowLemmas.{table_more}
use Rattle.mx_keeper.proofs.ShardTableLemmas.{drop_is, drop_plain, dropped_by, inserted_kept, inserted_number, refused_to_drop, terms, number_terms}
use Rattle.mx_keeper.proofs.TableLemmas.{IsCreated, IsInserted, IsMade, insert, made_by, put_by, refused_to_add, refused_to_create}

-- ---- what one statement leaves

module _ {text : List ℕ} {before : Schema} {table : Table} {schema : Schema} {tree : ℕ} (is_made : IsCreated text before table schema tree) where
  pub makes : (old new : State) → (IsTrue old.is_open → IsInside before old) → HasRun text [] old new → Changes schema (IsMade before tree old.now.trees) old new
  makes old new inside run =
      let made = made_by is_made old new run.count (inside run.was_open).known run.runs in
      record { was_open = run.was_open; is_open = run.is_open; inside = record { begun = run.begun; known = made.1 }; committed = run.committed; trees_are = made.2 }

module _ {text : List ℕ} {schema : Schema} {at width tree : ℕ} {values : List Term} {given row : Row} (is_made : IsInserted text schema at width tree values given row) where
  pub adds : (old new : State) → (IsTrue old.is_open → IsInside schema old) → HasRun text given old new → IsDatabase new.now × Changes schema (IsPut schema tree row old.now.trees) old new
  adds old new inside run =
      let made = put_by is_made old new run.count (inside run.was_open).known run.runs in
      (made.0, record { was_open = run.was_open; is_open = run.is_open; inside = record { begun = run.begun; known = made.1 }; committed = run.committed; trees_are = made.2 })

pub drops : (old new : State) → (IsTrue old.is_open → IsInside kept_schema old) → HasRun drop_text [] old new → Changes no_schema (λ _. ⊤) old new
drops old new inside run =
    let made = dropped_by old new run.count (inside run.was_open).known run.runs in
    record { was_open = run.was_open; is_open = run.is_open; inside = record { begun = run.begun; known = made.1 }; committed = run.committed; trees_are = tt }

-- ---- statements that are done, one after the other

module _ (text : List ℕ) (given : Row) (s t : State) (now : t.now ≡ s.now) (limit : t.step_limit ≡ s.step_limit) where
  statement_at : (c : Compiled) → IsStatement s text given c → IsStatement t text given c
  statement_at c it = record { is = subst (λ (d : Database). understood d.schema text ≡ Ok c) (sym now) it.is; whole = it.whole; given = it.given; now = it.now }

  refused_at : IsRefused text given s → IsRefused text given t
  refused_at (c, it, stop, does) = (
    c,
    statement_at c it,
    stop,
    subst₂ (λ l d. Does l (mode_of s) given d (text_of text c) c.returning c.command (Err stop)) (sym limit)
        (sym now) does,
  )

  done_at : (db : Database) → IsDone text given s db → IsDone text given t db
  done_at db (c, it, tally, does) = (
    c,
    statement_at c it,
    tally,
    subst₂ (λ l d. Does l (mode_of s) given d (text_of text c) c.returning c.command (Ok (tally, db))) (sym limit)
        (sym now) does,
  )

pub one_at : (steps : List MoveStep) (s t : State) → t.now ≡ s.now → t.step_limit ≡ s.step_limit → RefusesOne steps s → RefusesOne steps t
one_at [] s t now limit h = h
one_at (step ∷ more) s t now limit (given, is, inl refused) = (given, is, inl (refused_at step.text given s t now limit refused))
one_at (step ∷ more) s t now limit (given, is, inr (after, done, h)) =
    (given, is, inr (after, done_at step.text given s t now limit after done, one_at more (record s { now = after }) (record t { now = after }) refl limit h))

are_at : (steps : List MoveStep) (s t : State) (db : Database) → t.now ≡ s.now → t.step_limit ≡ s.step_limit → AreDone steps s db → AreDone steps t db
are_at [] s t db now limit h = h ∙ sym now
are_at (step ∷ more) s t db now limit (given, is, after, done, h) =
    (given, is, after, done_at step.text given s t now limit after done, are_at more (record s { now = after }) (record t { now = after }) db refl limit h)

pub one_more : (xs ys : List MoveStep) (s : State) → RefusesOne xs s → RefusesOne (xs ++ ys) s
one_more [] ys s h = absurd h
one_more (step ∷ xs) ys s (given, is, inl refused) = (given, is, inl refused)
one_more (step ∷ xs) ys s (given, is, inr (after, done, h)) = (given, is, inr (after, done, one_more xs ys (record s { now = after }) h))

then_one : (xs ys : List MoveStep) (s : State) (mid : Database) → AreDone xs s mid → RefusesOne ys (record s { now = mid }) → RefusesOne (xs ++ ys) s
then_one [] ys s mid done h = one_at ys (record s { now = mid }) s (sym done) refl h
then_one (step ∷ xs) ys s mid (given, is, after, done, rest) h = (given, is, inr (after, done, then_one xs ys (record s { now = after }) mid rest h))

then_done : (xs ys : List MoveStep) (s : State) (mid db : Database) → AreDone xs s mid → AreDone ys (record s { now = mid }) db → AreDone (xs ++ ys) s db
then_done [] ys s mid db done h = are_at ys (record s { now = mid }) s db (sym done) refl h
then_done (step ∷ xs) ys s mid db (given, is, after, done, rest) h = (given, is, after, done, then_done xs ys (record s { now = after }) mid db rest h)

-- more statements, behind those that brought it to this state
pub done_behind : (xs ys : List MoveStep) (old mid : State) (db : Database) → mid.step_limit ≡ old.step_limit → AreDone xs old mid.now → AreDone ys mid db
    → AreDone (xs ++ ys) old db
done_behind xs ys old mid db limit done h = then_done xs ys old mid.now db done (are_at ys mid (record old { now = mid.now }) db refl (sym limit) h)

-- a refusal after statements that were done
pub refused_behind : (xs ys : List MoveStep) (old mid new : State) (P : Trees → Type 0) → Survives old mid P → HasCleanDisk mid → mid.faults ≤ new.faults
    → (IsTrue mid.is_open → AreDone xs old mid.now) → MayRefuse mid new ⊎ RefusesOne ys mid
    → MayRefuse old new ⊎ RefusesOne (xs ++ ys) old
refused_behind xs ys old mid new P s clean later done (inl may) = inl (refuses_after old mid new (s.closes clean) s.counts later s.limit may)
refused_behind xs ys old mid new P s clean later done (inr refused) = elim (cases_Bool mid.is_open) [
  | inl live ↦ inr (then_one xs ys old mid.now (done live) (one_at ys mid (record old { now = mid.now }) refl (sym s.limit) refused))
  | inr shut ↦ inl (refuses_after old mid new (s.closes clean) s.counts later s.limit (inl shut))
]

-- a refusal with more statements behind
pub refused_more : (xs ys : List MoveStep) (old new : State) → MayRefuse old new ⊎ RefusesOne xs old → MayRefuse old new ⊎ RefusesOne (xs ++ ys) old
refused_more xs ys old new (inl may) = inl may
refused_more xs ys old new (inr refused) = inr (one_more xs ys old refused)

-- ---- why the layout is refused

refuses_longer : (old mid new : State) → mid.faults ≤ new.faults → MayRefuse old mid → MayRefuse old new
refuses_longer old mid new later (inl shut) = inl shut
refuses_longer old mid new later (inr (inl rose)) = inr (inl (omega (arith, rose, later)))
refuses_longer old mid new later (inr (inr limited)) = inr (inr limited)

-- in the transaction, where it is known whether the first layout's table is there
pub refused_inside : (had_first : Bool) (rows : List ShardRow) (old mid new : State) → mid.faults ≤ new.faults → (IsTrue had_first → old.now.schema ≡ kept_schema)
    → (had_first ≡ false → IsTrue old.is_open → old.now.schema ≡ no_schema)
    → MayRefuse (record old { in_transaction = true }) mid ⊎ RefusesOne (drop_steps had_first ++ fill_steps rows) (record old { in_transaction = true }) → MayRefuse old new
    ⊎ RefusesLayout rows (record old { in_transaction = true })
refused_inside had_first rows old mid new later kept none (inl may) = inl (refuses_longer old mid new later may)
refused_inside had_first rows old mid new later kept none (inr refused) = elim (cases_Bool had_first) [
  | inl had ↦ inr (inl (kept had, subst (λ b. RefusesOne (drop_steps b ++ fill_steps rows) (record old { in_transaction = true })) had refused))
  | inr had ↦ elim (cases_Bool old.is_open) [
    | inl live ↦ inr (inr (none had live, subst (λ b. RefusesOne (drop_steps b ++ fill_steps rows) (record old { in_transaction = true })) had refused))
    | inr shut ↦ inl (inl shut)
  ]
]

-- after a call that changed nothing
pub refused_after : (rows : List ShardRow) (old mid new : State) (P : Trees → Type 0) → Survives old mid P → HasCleanDisk mid → mid.faults ≤ new.faults
    → (IsTrue mid.is_open → mid.now ≡ old.now)
    → MayRefuse mid new ⊎ RefusesLayout rows (record mid { in_transaction = true }) → MayRefuse old new ⊎ RefusesLayout rows (record old { in_transaction = true })
refused_after rows old mid new P s clean later same (inl may) = inl (refuses_after old mid new (s.closes clean) s.counts later s.limit may)
refused_after rows old mid new P s clean later same (inr refused) = elim (cases_Bool mid.is_open) [
  | inr shut ↦ inl (refuses_after old mid new (s.closes clean) s.counts later s.limit (inl shut))
  | inl live ↦
      let back = sym (same live) in
      let schema = ap (λ (d : Database). d.schema) back in
      elim refused [
        | inl first ↦ inr (inl (
          schema ∙ first.0,
          one_at (plain_step drop_text ∷ fill_steps rows) (record mid { in_transaction = true })
              (record old { in_transaction = true }) back (sym s.limit) first.1,
        ))
        | inr none ↦ inr (inr (schema ∙ none.0, one_at (fill_steps rows) (record mid { in_transaction = true }) (record old { in_transaction = true }) back (sym s.limit) none.1))
      ]
]

-- the rows behind others are added by the statements behind theirs
pub row_steps-append : (place : ℕ) (xs ys : List ShardRow) → row_steps place (xs ++ ys) ≡ row_steps place xs ++ row_steps (place + length xs) ys
row_steps-append place [] ys = ap (λ n. row_steps n ys) (let e : place ≡ place + 0 = omega arith in e)
row_steps-append place (x ∷ xs) ys =
    ap (λ steps. record { text = insert_text; adds = Some (place, x) } ∷ steps)
    (row_steps-append (place + 1) xs ys ∙ ap (λ n. row_steps (place + 1) xs ++ row_steps n ys) (let e : place + 1 + length xs ≡ place + length (x ∷ xs) = omega arith in e))

pub rows_then : (done : List ShardRow) (row : ShardRow) (rest rows : List ShardRow) (count : ℕ) → length done ≡ count → done ++ row ∷ rest ≡ rows
    → row_steps 1 done ++ row_steps (count + 1) (row ∷ rest) ≡ row_steps 1 rows
rows_then done row rest rows count is all =
    let next : count + 1 ≡ 1 + length done = omega (arith, is) in
    ap (λ n. row_steps 1 done ++ row_steps n (row ∷ rest)) next ∙ sym (row_steps-append 1 done (row ∷ rest)) ∙ ap (row_steps 1) all

abbrev pub alone : List ℕ → List MoveStep
alone text = plain_step text ∷ []

-- ---- what a statement of the move does

module _ (old new : State) (text : List ℕ) (given : Row) (schema : Schema) (has : old.now.schema ≡ schema) (plain : IsPlain (understood schema text)) (command : Command)
    (is : command_of (understood schema text) ≡ command)
    (writes : (t : List ℕ) (count : ℕ) → Runs old new None command t given count → Writes old new None command t given count) where
  pub done_by : (count : ℕ) → Executes text given old new (Ok count) → IsDone text given old new.now
  unfolding ExecutesIn
  done_by count h =
      let known = sym h.1.is ∙ ap (λ s. understood s text) has in
      let bare = subst IsPlain (sym known) plain in
      let same : h.0.command ≡ command = ap command_of known ∙ is in
      let w = writes (statement_of text (understood schema text)) count (runs_as text given old new schema has command is plain count h) in
      let as_written = subst (λ t. Does old.step_limit (mode_of old) given old.now t None command (Ok (w.tally, new.now))) (sym (ap (statement_of text) known)) w.changed in
      (h.0, h.1, w.tally, subst₂ (λ r k. Does old.step_limit (mode_of old) given old.now (text_of text h.0) r k (Ok (w.tally, new.now))) (sym bare.0) (sym same) as_written)

-- one statement with no values
pub done_alone : (text : List ℕ) (old : State) (db : Database) → IsDone text [] old db → AreDone (plain_step text ∷ []) old db
done_alone text old db done = ([], refl, db, done, refl)

module _ {text : List ℕ} {before : Schema} {table : Table} {schema : Schema} {tree : ℕ} (is_made : IsCreated text before table schema tree) where
  pub made_done : (old new : State) → (IsTrue old.is_open → IsInside before old) → HasRun text [] old new → AreDone (plain_step text ∷ []) old new.now
  made_done old new inside run = done_alone text old new.now (done_by old new text [] before (inside run.was_open).known is_made.plain CreateTable is_made.command
      (λ t count w. w) run.count run.runs)

pub dropped_done : (old new : State) → (IsTrue old.is_open → IsInside kept_schema old) → HasRun drop_text [] old new → AreDone (plain_step drop_text ∷ []) old new.now
dropped_done old new inside run = done_alone drop_text old new.now
    (done_by old new drop_text [] kept_schema (inside run.was_open).known drop_plain.0 (DropTable 0) drop_is (λ t count w. w) run.count run.runs)

-- ---- why one statement is refused

-- a statement that ends no transaction
abbrev StaysInside : Command → Type 1
StaysInside command = (s : State) → ¬ Escapes 0 s command

create_inside : StaysInside CreateTable
create_inside s (inl (inl same)) = absurd (let bad = same in cc)
create_inside s (inl (inr same)) = absurd (let bad = same in cc)
create_inside s (inr (name, inl same, held)) = absurd (let bad = same in cc)
create_inside s (inr (name, inr same, held)) = absurd (let bad = same in cc)

drop_inside : StaysInside (DropTable 0)
drop_inside s (inl (inl same)) = absurd (let bad = same in cc)
drop_inside s (inl (inr same)) = absurd (let bad = same in cc)
drop_inside s (inr (name, inl same, held)) = absurd (let bad = same in cc)
drop_inside s (inr (name, inr same, held)) = absurd (let bad = same in cc)

insert_inside : (at width : ℕ) (given : List Term) → StaysInside (insert at width given)
insert_inside at width given s (inl (inl same)) = absurd (let bad = same in cc)
insert_inside at width given s (inl (inr same)) = absurd (let bad = same in cc)
insert_inside at width given s (inr (name, inl same, held)) = absurd (let bad = same in cc)
insert_inside at width given s (inr (name, inr same, held)) = absurd (let bad = same in cc)

module _ (old new : State) (text : List ℕ) (given : Row) (schema : Schema) (has : IsTrue old.is_open → IsInside schema old) (command : Command) (is : command_of (understood schema text) ≡ command) (inside : StaysInside command)
    (refused : old.now.schema ≡ schema → (e : Error) → e ≢ memory → Executes text given old new (Err e) → MayRefuse old new ⊎ IsRefused text given old)
    (adds : Option (ℕ × ShardRow)) (step : IsGiven adds given) where
  in_scope : old.now.schema ≡ schema → ¬ EndsScope 0 text given old
  unfolding EndsScope
  in_scope known (c, it, ends) =
      let same : c.command ≡ command = ap command_of (sym it.is ∙ ap (λ s. understood s text) known) ∙ is in
      inside old (subst (Escapes 0 old) same ends)

  pub stops : IsStopped text given old new → MayRefuse old new ⊎ RefusesOne (record { text = text; adds = adds } ∷ []) old
  stops (inl closed) = inl (inl closed)
  stops (inr (e, other, h)) = elim (cases_Bool old.is_open) [
    | inr closed ↦ inl (inl closed)
    | inl live ↦ elim h [
      | inl run ↦ elim (refused (has live).known e other run.0) [ inl may ↦ inl may | inr refusal ↦ inr (given, step, inl refusal) ]
      | inr ends ↦ absurd (in_scope (has live).known ends.0)
    ]
  ]

module _ (old new : State) where
  pub stops_drop : (IsTrue old.is_open → IsInside kept_schema old) → IsStopped drop_text [] old new → MayRefuse old new ⊎ RefusesOne (plain_step drop_text ∷ []) old
  stops_drop has = stops old new drop_text [] kept_schema has (DropTable 0) drop_is drop_inside (refused_to_drop old new) None refl

  module _ {text : List ℕ} {before : Schema} {table : Table} {schema : Schema} {tree : ℕ} (is_made : IsCreated text before table schema tree) where
    pub stops_create : (IsTrue old.is_open → IsInside before old) → IsStopped text [] old new → MayRefuse old new ⊎ RefusesOne (plain_step text ∷ []) old
    stops_create has = stops old new text [] before has CreateTable is_made.command create_inside (refused_to_create is_made old new) None refl

  pub stops_number : (IsTrue old.is_open → IsInside shard_schema old) → IsStopped insert_layout_text [] old new → MayRefuse old new ⊎ RefusesOne number_steps old
  stops_number has = stops old new insert_layout_text [] shard_schema has (insert 2 3 number_terms) inserted_number.command (insert_inside 2 3 number_terms)
      (refused_to_add inserted_number old new) None refl

-- the statement that adds the next row
module _ (count : ℕ) (row : ShardRow) (event : List ℕ) (is : event_of_text event ≡ Some row.event) (place : ℤ) (caller : ℕ) (at : place ≡ pos (count + 1)) (by : (caller ≡ row.caller) × (caller < 2 ^ 32)) where
  given_is : IsGiven (Some (count + 1, row)) (given_row place row.room row.version event caller)
  given_is = (event, is, rw (at, by.0) refl)

  pub stops_row : (old new : State) → (IsTrue old.is_open → IsInside shard_schema old) → IsStopped insert_text (given_row place row.room row.version event caller) old new
      → MayRefuse old new ⊎ RefusesOne (row_steps (count + 1) (row ∷ [])) old
  stops_row old new has =
      stops old new insert_text (given_row place row.room row.version event caller) shard_schema has (insert 1 6 terms)
      (inserted_kept place row.room row.version event caller).command (insert_inside 1 6 terms)
      (refused_to_add (inserted_kept place row.room row.version event caller) old new) (Some (count + 1, row)) given_is

  pub row_done : (old new : State) → (IsTrue old.is_open → IsInside shard_schema old) → HasRun insert_text (given_row place row.room row.version event caller) old new
      → AreDone (row_steps (count + 1) (row ∷ [])) old new.now
  row_done old new inside run =
      let it = inserted_kept place row.room row.version event caller in (
        given_row place row.room row.version event caller,
        given_is,
        new.now,
        done_by old new insert_text (given_row place row.room row.version event caller) shard_schema
            (inside run.was_open).known it.plain (insert 1 6 terms) it.command (λ t count w. w) run.count run.runs,
        refl,
      )

  pub one_more_row : (old new : Trees) → IsTrue (is_utf8 row.room) → IsTrue (is_room_id row.room) → ReadsSoMany count old → IsPut shard_schema 1 (stored place row.room row.version event caller) old new → HasOneMore row old new
  one_more_row old new room_utf8 room so put =
      let next : place ≡ pos (length so.all + 1) = at ∙ ap (λ n. pos (n + 1)) (sym so.counted) in
      record {
        reads = table_more so.all old so.reads row event room_utf8 room is place caller next by new put ∙ ap (λ rows. with_row rows row) (sym so.reads);
        others = record { first = put.others 0 (λ e. absurd cc) tt; third = put.others 2 (λ e. absurd cc) tt };
      }

-- ---- a statement in the transaction

-- a transaction that has ended runs nothing
pub has_run : {X : Type 0} (old new : State) (text : List ℕ) (given : Row) (count : ℕ) (e : Error) → (old.in_transaction ≡ false → ◌≡◌ {A = Result ℕ Error} (Ok count) (Err e) × X)
    → (IsTrue old.in_transaction → ExecutesInside 0 text given old new (Ok count)) → HasRun text given old new
has_run old new text given count e ended runs = elim (cases_Bool old.in_transaction) [
  | inl begun ↦ let it = runs begun in record { was_open = it.1.was_open; is_open = it.1.is_open; begun = it.1.mode; committed = it.1.committed_is; count = count; runs = it.0 }
  | inr none ↦ absurd (let bad = (ended none).0 in cc)
]

pub is_stopped : (old new : State) (text : List ℕ) (given : Row) (e : Error) → (IsTrue old.is_open → IsTrue old.in_transaction) → (IsTrue old.in_transaction → ExecutesInside 0 text given old new (Err e)) → e ≢ memory
    → IsStopped text given old new
is_stopped old new text given e begun runs other = elim (cases_Bool old.is_open) [ inl live ↦ inr (e, other, runs (begun live)) | inr closed ↦ inl closed ]

-- ---- steps in turn

-- nothing is done
pub survives_still : (s : State) (P : Trees → Type 0) → Survives s s P
survives_still s P = record { clean = omega arith; shield = λ h. h; counts = omega arith; limit = refl; closes = λ _ live. inl live; crash = λ _ db h. inl h }

pub has_none : (db : Trees) → read_table db ≡ Some [] → HasTheseRows [] db db
has_none db none = record { reads = none; others = record { first = refl; third = refl } }

-- one row more behind these
pub has_more : (rows : List ShardRow) (row : ShardRow) (a b c : Trees) → HasTheseRows rows a b → HasOneMore row b c → HasTheseRows (rows ++ row ∷ []) a c
has_more rows row a b c these one = record {
  reads = one.reads ∙ ap (λ all. with_row all row) these.reads;
  others = record { first = one.others.first ∙ these.others.first; third = one.others.third ∙ these.others.third };
}

pub changes_then : (schema schema' : Schema) (P Q : Trees → Type 0) (old mid new : State) → Changes schema P old mid → Changes schema' Q mid new → Changes schema' Q old new
changes_then schema schema' P Q old mid new one two =
    record { was_open = one.was_open; is_open = two.is_open; inside = two.inside; committed = two.committed ∙ one.committed; trees_are = two.trees_are }

pub all_empty : (a b c d : Trees) → IsMade no_schema 0 a b → IsMade kept_schema 1 b c → IsMade pair_schema 2 c d → AreEmpty d
all_empty a b c d one two three = record {
  first = three.others.0 ∙ two.others.0 ∙ one.empty;
  second = three.others.1.0 ∙ two.empty;
  third = three.empty;
}

pub reads_none : (db : Trees) → db 1 ≡ [] → read_table db ≡ Some []
reads_none db none = ap (read_rows row_columns read_shown) none

-- the number is stated behind the rows
pub laid_out : (rows : List ShardRow) (a b c : Trees) → AreEmpty a → HasTheseRows rows a b → IsPut shard_schema 2 layout_row b c → read_shard c ≡ Some rows
laid_out rows a b c empty these put =
    let first : c 0 ≡ [] = put.others 0 (λ e. absurd cc) tt ∙ these.others.first ∙ empty.first in
    let third : c 2 ≡ layout_row ∷ [] = put.at ∙ ap (put_row layout_row) (these.others.third ∙ empty.third) in
    let is_laid_out : laid c ≡ true = ap₂ is_laid (ap (read_rows first_columns first_shown) first) (ap (read_rows layout_columns layout_shown) third) in
    let table : read_table c ≡ Some rows = ap (read_rows row_columns read_shown) (put.others 1 (λ e. absurd cc) tt) ∙ these.reads in
    rw (is_laid_out, table) refl
