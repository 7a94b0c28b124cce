-- What the statements on a table of rows do, whatever its columns are.
use Rattle.std.proofs.Common.{◌≡◌, ◌≢◌, ◌≤◌, ◌⊎◌, length, refl, inl, inr, ℕ, List, [], false, None, Ok, Err, Result, IfErr, OnOk, sym, ap, subst, subst₂, ◌∙◌, append-nil, Option, IsTrue}
use Rattle.sqlite.specs.Order.{Row}
use Rattle.sqlite.specs.Schema.{Schema}
use Rattle.sqlite.specs.Table.{Table}
use Rattle.sqlite.specs.Command.{Command}
use Rattle.sqlite.specs.Command.TheVariants.{CreateTable, Insert}
use Rattle.sqlite.specs.Source.TheVariants.{Values}
use Rattle.sqlite.specs.Term.{Term}
use Rattle.sqlite.specs.Compile.{table_defined_by}
use Rattle.sqlite.specs.Listing.{understood}
use Rattle.sqlite.specs.Change.{KeepsRows, created, next_tree}
use Rattle.sqlite.specs.Does.{Tally, Does, lacks_sequence}
use Rattle.sqlite.specs.Tree.{Trees}
use Rattle.sqlite.specs.declared.error.Error.{Error}
use Rattle.sqlite.specs.Effect.{Database, IsDatabase}
use Rattle.sqlite.specs.State.{State, mode_of, shows_rows, IsMisplaced, IsNotRun, Writes, Executes, CommitsBy, MayCommit, text_of, IsUnchanged}
use Rattle.sqlite.specs.declared.run.Mode.{Mode}
use Rattle.sqlite.proofs.Callers.{IsPlain, command_of, statement_of, runs_as}
use Rattle.mx_keeper.proofs.StayLemmas.{idle_later, sound_at}
use Rattle.mx_keeper.specs.Connections.{HasSchema, IsIdle, IsPut, MayRefuse, Puts}
use Rattle.mx_keeper.specs.Refusals.{IsRefused}
use Rattle.mx_keeper.specs.Selecting.{IsWhole}
use Rattle.mx_keeper.proofs.RefusalLemmas.{memory, not_run, refuses_run, refuses_later, refused_later}
use Rattle.sqlite_resolve.specs.declared.compiled.Compiled.{Compiled}

pub went : {B E R : Type 0} {b : B} {Stops : E → Type 0} → ((stop : E) × Stops stop × (Ok b ≡ Err stop)) ⊎ R → R
went (inl stopped) = absurd (let e = stopped.2 in cc)
went (inr on) = on

pub same_value : {B E : Type 0} {a b : B} → ◌≡◌ {A = Result B E} (Ok a) (Ok b) → a ≡ b
same_value e = cc

-- ---- a table is made

create_placed : (s : State) (e : Error) → ¬ IsMisplaced s CreateTable e
create_placed s e (inl (is, inl (same, begun))) = absurd (let bad = same in cc)
create_placed s e (inl (is, inr (inl same, begun))) = absurd (let bad = same in cc)
create_placed s e (inl (is, inr (inr same, begun))) = absurd (let bad = same in cc)
create_placed s e (inr (is, name, inl same, named)) = absurd (let bad = same in cc)
create_placed s e (inr (is, name, inr same, named)) = absurd (let bad = same in cc)

create_hidden : (c : Compiled) → c.command ≡ CreateTable → c.returning ≡ None → shows_rows false c ≡ false
create_hidden c is none = rw (is, none) refl

-- the statement makes this table in a file with this schema, with this tree; then the file has that schema
pub record IsCreated (create_text : List ℕ) (before : Schema) (table : Table) (schema : Schema) (tree : ℕ) : Type 0 where
  pub command : command_of (understood before create_text) ≡ CreateTable
  pub statement : statement_of create_text (understood before create_text) ≡ create_text
  pub defined : table_defined_by create_text ≡ Ok table
  pub plain : IsPlain (understood before create_text)
  pub whole : IsWhole create_text 0 (understood before create_text)
  pub made : created before table ≡ schema
  pub next : next_tree before ≡ tree
  pub calm : lacks_sequence schema ≡ false

-- the new tree is empty, and those that stood are as they were
pub record IsMade (before : Schema) (tree : ℕ) (old new : Trees) : Type 0 where
  pub empty : new tree ≡ []
  pub others : KeepsRows before.tables old new

module _ {create_text : List ℕ} {before : Schema} {table : Table} {schema : Schema} {tree : ℕ} (is_made : IsCreated create_text before table schema tree) where
  -- what the CREATE TABLE makes of such a database
  does_create : (limit : Option ℕ) (mode : Mode) (old after : Database) (tally : Tally) → old.schema ≡ before → Does limit mode [] old create_text None CreateTable (Ok (tally, after))
      → (after.schema ≡ schema) × IsMade before tree old.trees after.trees
  does_create limit mode old after tally has h =
      let all = went h in
      let first = went all.1 in
      let made = first.1 in
      let both : Ok made.table ≡ Ok table = sym made.defined ∙ is_made.defined in
      let same : made.table ≡ table = cc in
      let known : first.0.schema ≡ schema = made.is ∙ ap (λ s. created s made.table) has ∙ ap (created before) same ∙ is_made.made in
      let plain : lacks_sequence first.0.schema ≡ false = ap lacks_sequence known ∙ is_made.calm in
      let now : after ≡ first.0 = ap (λ (p : Tally × Database). p.1) (same_value all.2) ∙ same_value (rw plain at first.2) in
      let empty : first.0.trees tree ≡ [] = subst (λ t. first.0.trees t ≡ []) (ap next_tree has ∙ is_made.next) made.empty in
      let others : KeepsRows before.tables old.trees first.0.trees = subst (λ (s : Schema). KeepsRows s.tables old.trees first.0.trees) has made.others in
      (ap (λ (d : Database). d.schema) now ∙ known, subst (λ (d : Database). IsMade before tree old.trees d.trees) (sym now) (record { empty = empty; others = others }))

  -- what it leaves, also inside a transaction
  pub made_by : (old new : State) (count : ℕ) → old.now.schema ≡ before → Executes create_text [] old new (Ok count) → IsDatabase new.now × (new.now.schema ≡ schema) × IsMade before tree old.now.trees new.now.trees
  made_by old new count has h =
      let w = subst (λ t. Writes old new None CreateTable t [] count) is_made.statement (runs_as create_text [] old new before has CreateTable is_made.command is_made.plain count h) in
      let made = does_create old.step_limit (mode_of old) old.now new.now w.tally has w.changed in
      (w.sound, made.0, made.1)

  pub creates : (old new : State) (r : Result ℕ Error) → (IsTrue old.is_open → IsIdle old) → (IsTrue old.is_open → old.now.schema ≡ before) → Executes create_text [] old new r → IsTrue old.is_open → OnOk r (Puts schema (λ db. db tree ≡ []) old new)
  creates old new (Err e) idle has h live = tt
  creates old new (Ok count) idle has h live =
      let w = subst (λ t. Writes old new None CreateTable t [] count) is_made.statement (runs_as create_text [] old new before (has live) CreateTable is_made.command is_made.plain count h) in
      let made = does_create old.step_limit (mode_of old) old.now new.now w.tally (has live) w.changed in
      let committed : new.committed ≡ new.now = rw (idle live).idle at w.shown.committed_is in
      record {
        was_open = w.shown.was_open;
        is_open = w.shown.is_open;
        idle = record { idle = w.shown.mode ∙ (idle live).idle; settled = sym committed };
        known = made.0;
        sound = sound_at schema new.now new.committed.trees w.sound made.0 (ap (λ (d : Database). d.trees) committed);
        trees_are = ap (λ (d : Database). d.trees tree) committed ∙ made.1.empty;
      }

  -- why the connection does not prepare the CREATE TABLE
  pub refuses_to_create : (old new : State) → (IsTrue old.is_open → old.now.schema ≡ before) → (e : Error) → e ≢ memory → IsNotRun old new create_text [] e → MayRefuse old new
  refuses_to_create old new has e other h = not_run old new create_text [] (λ live. subst (λ s. IsWhole create_text 0 (understood s create_text)) (sym (has live)) is_made.whole) e other h

  -- why it is refused
  pub refused_to_create : (old new : State) → old.now.schema ≡ before → (e : Error) → e ≢ memory → Executes create_text [] old new (Err e) → MayRefuse old new ⊎ IsRefused create_text [] old
  refused_to_create old new has e other h = refuses_run old new create_text [] before has is_made.plain is_made.whole CreateTable is_made.command create_placed create_hidden e other h

  -- what the CREATE TABLE may commit
  commits_create : (old : State) (db : Trees) → old.now.schema ≡ before → CommitsBy create_text [] old db → HasSchema schema db × (db tree ≡ [])
  unfolding CommitsBy
  commits_create old db has h =
      let known = sym h.1.is ∙ ap (λ s. understood s create_text) has in
      let bare = subst IsPlain (sym known) is_made.plain in
      let may : MayCommit old h.0.returning h.0.command (text_of create_text h.0) [] db = rw bare.1 at h.2 in
      let is : h.0.command ≡ CreateTable = ap command_of known ∙ is_made.command in
      let text : text_of create_text h.0 ≡ create_text = ap (statement_of create_text) known ∙ is_made.statement in
      let may' : MayCommit old None CreateTable (text_of create_text h.0) [] db = subst₂ (λ r k. MayCommit old r k (text_of create_text h.0) [] db) bare.0 is may in
      written (subst (λ t. MayCommit old None CreateTable t [] db) text may')
    where
      written : MayCommit old None CreateTable create_text [] db → HasSchema schema db × (db tree ≡ [])
      written (inl (inl c, e)) = absurd (let bad = c in cc)
      written (inl (inr c, e)) = absurd (let bad = c.2 in cc)
      written (inr w) = let made = does_create old.step_limit (mode_of old) old.now w.2 w.1 has w.3 in (sound_at schema w.2 db w.4 made.0 w.5, ap (λ (t : Trees). t tree) w.5 ∙ made.1.empty)

  module _ (first old : State) (idle : IsTrue first.is_open → IsIdle first) (has : IsTrue first.is_open → first.now.schema ≡ before) (same : IsUnchanged first old) where
    before_now : old.now.schema ≡ before
    before_now = ap (λ (d : Database). d.schema) same.0.now_is ∙ has same.0.was_open

    pub creates_then : (new : State) (r : Result ℕ Error) (text : List ℕ) → text ≡ create_text → Executes text [] old new r → OnOk r (Puts schema (λ db. db tree ≡ []) first new)
    creates_then new (Err e) text is h = tt
    creates_then new (Ok count) text is h =
        let made = creates old new (Ok count) (idle_later first old idle same) (λ _. before_now) (subst (λ t. Executes t [] old new (Ok count)) is h) same.0.is_open in
        record { was_open = same.0.was_open; is_open = made.is_open; idle = made.idle; known = made.known; sound = made.sound; trees_are = made.trees_are }

    pub refuses_made : (new : State) (r : Result ℕ Error) (text : List ℕ) → text ≡ create_text → first.faults ≤ old.faults → old.step_limit ≡ first.step_limit → Executes text [] old new r
        → IfErr r (λ e. e ≢ memory → MayRefuse first new ⊎ IsRefused create_text [] first)
    refuses_made new (Ok count) text is few limit h = tt
    refuses_made new (Err e) text is few limit h = λ other.
        elim (refused_to_create old new before_now e other (subst (λ t. Executes t [] old new (Err e)) is h)) [
          | inl may ↦ inl (refuses_later first old new same few limit may)
          | inr refused ↦ inr (refused_later first old create_text [] same limit refused)
        ]

    pub commits_made : (db : Trees) (text : List ℕ) → text ≡ create_text → CommitsBy text [] old db → HasSchema schema db × (db tree ≡ [])
    commits_made db text is h = commits_create old db before_now (subst (λ t. CommitsBy t [] old db) is h)

-- ---- a row is added

abbrev pub insert : ℕ → ℕ → List Term → Command
insert at width terms = Insert at (Values terms width)

insert_placed : (at width : ℕ) (terms : List Term) (s : State) (e : Error) → ¬ IsMisplaced s (insert at width terms) e
insert_placed at width terms s e (inl (is, inl (same, begun))) = absurd (let bad = same in cc)
insert_placed at width terms s e (inl (is, inr (inl same, begun))) = absurd (let bad = same in cc)
insert_placed at width terms s e (inl (is, inr (inr same, begun))) = absurd (let bad = same in cc)
insert_placed at width terms s e (inr (is, name, inl same, named)) = absurd (let bad = same in cc)
insert_placed at width terms s e (inr (is, name, inr same, named)) = absurd (let bad = same in cc)

insert_hidden : (at width : ℕ) (terms : List Term) (c : Compiled) → c.command ≡ insert at width terms → c.returning ≡ None → shows_rows false c ≡ false
insert_hidden at width terms c is none = rw (is, none) refl

-- the statement, given these values, puts this row into the table at this place, whose tree is this
pub record IsInserted (insert_text : List ℕ) (schema : Schema) (at width tree : ℕ) (terms : List Term) (given row : Row) : Type 0 where
  pub command : command_of (understood schema insert_text) ≡ insert at width terms
  pub plain : IsPlain (understood schema insert_text)
  pub whole : IsWhole insert_text (length given) (understood schema insert_text)
  pub does : (limit : Option ℕ) (mode : Mode) (old after : Database) (tally : Tally) (text : List ℕ) → old.schema ≡ schema → Does limit mode given old text None (insert at width terms) (Ok (tally, after))
      → (after.schema ≡ schema) × IsPut schema tree row old.trees after.trees

module _ {insert_text : List ℕ} {schema : Schema} {at width tree : ℕ} {terms : List Term} {given row : Row} (is_made : IsInserted insert_text schema at width tree terms given row) where
  -- why the connection does not prepare the INSERT
  pub refuses_to_add : (old new : State) → (IsTrue old.is_open → old.now.schema ≡ schema) → (e : Error) → e ≢ memory → IsNotRun old new insert_text given e → MayRefuse old new
  refuses_to_add old new has e other h =
      not_run old new insert_text given (λ live. subst (λ s. IsWhole insert_text (length given) (understood s insert_text)) (sym (has live)) is_made.whole) e other h

  -- why it is refused
  pub refused_to_add : (old new : State) → old.now.schema ≡ schema → (e : Error) → e ≢ memory → Executes insert_text given old new (Err e) → MayRefuse old new ⊎ IsRefused insert_text given old
  refused_to_add old new has e other h =
      refuses_run old new insert_text given schema has is_made.plain is_made.whole (insert at width terms) is_made.command (insert_placed at width terms) (insert_hidden at width terms) e other h

  -- what the INSERT leaves, also inside a transaction
  pub put_by : (old new : State) (count : ℕ) → old.now.schema ≡ schema → Executes insert_text given old new (Ok count) → IsDatabase new.now × (new.now.schema ≡ schema) × IsPut schema tree row old.now.trees new.now.trees
  put_by old new count has h =
      let w = runs_as insert_text given old new schema has (insert at width terms) is_made.command is_made.plain count h in
      let made = is_made.does old.step_limit (mode_of old) old.now new.now w.tally (statement_of insert_text (understood schema insert_text)) has w.changed in
      (w.sound, made.0, made.1)

  -- what the INSERT may commit
  pub commits_add : (old : State) (db : Trees) → old.now.schema ≡ schema → CommitsBy insert_text given old db → HasSchema schema db × IsPut schema tree row old.now.trees db
  unfolding CommitsBy
  commits_add old db has h =
      let known = sym h.1.is ∙ ap (λ s. understood s insert_text) has in
      let bare = subst IsPlain (sym known) is_made.plain in
      let may : MayCommit old h.0.returning h.0.command (text_of insert_text h.0) given db = rw (bare.1, append-nil given) at h.2 in
      let is : h.0.command ≡ insert at width terms = ap command_of known ∙ is_made.command in
      let may' : MayCommit old None (insert at width terms) (text_of insert_text h.0) given db = subst₂ (λ r k. MayCommit old r k (text_of insert_text h.0) given db) bare.0 is may in
      written (text_of insert_text h.0) may'
    where
      written : (text : List ℕ) → MayCommit old None (insert at width terms) text given db → HasSchema schema db × IsPut schema tree row old.now.trees db
      written text (inl (inl c, e)) = absurd (let bad = c in cc)
      written text (inl (inr c, e)) = absurd (let bad = c.2 in cc)
      written text (inr w) =
          let made = is_made.does old.step_limit (mode_of old) old.now w.2 w.1 text has w.3 in
          (sound_at schema w.2 db w.4 made.0 w.5, subst (IsPut schema tree row old.now.trees) (sym w.5) made.1)

  -- what the INSERT leaves, outside a transaction
  inserts : (old new : State) (count : ℕ) → IsIdle old → old.now.schema ≡ schema → Executes insert_text given old new (Ok count)
      → Puts schema (IsPut schema tree row old.committed.trees) old new
  inserts old new count idle has h =
      let w = runs_as insert_text given old new schema has (insert at width terms) is_made.command is_made.plain count h in
      let made = is_made.does old.step_limit (mode_of old) old.now new.now w.tally (statement_of insert_text (understood schema insert_text)) has w.changed in
      let committed : new.committed ≡ new.now = rw idle.idle at w.shown.committed_is in
      record {
        was_open = w.shown.was_open;
        is_open = w.shown.is_open;
        idle = record { idle = w.shown.mode ∙ idle.idle; settled = sym committed };
        known = made.0;
        sound = sound_at schema new.now new.committed.trees w.sound made.0 (ap (λ (d : Database). d.trees) committed);
        trees_are = subst₂ (λ (a b : Database). IsPut schema tree row a.trees b.trees) idle.settled (sym committed) made.1;
      }

  module _ (before old : State) (idle : IsTrue before.is_open → IsIdle before) (has : IsTrue before.is_open → before.now.schema ≡ schema) (same : IsUnchanged before old) where
    known_now : old.now.schema ≡ schema
    known_now = ap (λ (d : Database). d.schema) same.0.now_is ∙ has same.0.was_open

    pub inserts_then : (new : State) (r : Result ℕ Error) (text : List ℕ) → text ≡ insert_text → Executes text given old new r
        → OnOk r (Puts schema (IsPut schema tree row before.committed.trees) before new)
    inserts_then new (Err e) text is h = tt
    inserts_then new (Ok count) text is h =
        let now = idle_later before old idle same same.0.is_open in
        let made = inserts old new count now known_now (subst (λ t. Executes t given old new (Ok count)) is h) in
        record {
          was_open = same.0.was_open;
          is_open = made.is_open;
          idle = made.idle;
          known = made.known;
          sound = made.sound;
          trees_are = subst (λ (d : Database). IsPut schema tree row d.trees new.committed.trees) same.0.committed_is made.trees_are;
        }

    pub refuses_then : (new : State) (r : Result ℕ Error) (text : List ℕ) → text ≡ insert_text → before.faults ≤ old.faults → old.step_limit ≡ before.step_limit → Executes text given old new r
        → IfErr r (λ e. e ≢ memory → MayRefuse before new ⊎ IsRefused insert_text given before)
    refuses_then new (Ok count) text is few limit h = tt
    refuses_then new (Err e) text is few limit h = λ other.
        elim (refused_to_add old new known_now e other (subst (λ t. Executes t given old new (Err e)) is h)) [
          | inl may ↦ inl (refuses_later before old new same few limit may)
          | inr refused ↦ inr (refused_later before old insert_text given same limit refused)
        ]

    pub commits_then : (db : Trees) (text : List ℕ) → text ≡ insert_text → CommitsBy text given old db → IsTrue before.is_open × HasSchema schema db × IsPut schema tree row before.committed.trees db
    commits_then db text is h =
        let put = commits_add old db known_now (subst (λ t. CommitsBy t given old db) is h) in
        (same.0.was_open, put.0, subst (λ (d : Database). IsPut schema tree row d.trees db) (same.0.now_is ∙ (idle same.0.was_open).settled) put.1)
