-- What a crash leaves of a shard that callers share, and what a shard has that is opened again over it.
use Rattle.std.proofs.Common.{◌≡◌, ◌≤◌, ◌⊎◌, inl, inr, Bool, true, false, List, [], ◌∷◌, ◌++◌, length, Option, Some, refl, sym, ap, ◌∙◌, subst, arith, append_assoc, append-nil}
use Rattle.mx_dock.specs.Journal.{IsPrefix}
use Rattle.mx_dock.specs.declared.views.PassView.{PassView}
use Rattle.mx_keeper.specs.declared.rows.ShardRow.{ShardRow}
use Rattle.mx_shard.specs.Journal.{Entry, AreWorkedOut, record_of, row_in, stored_behind, stored, entry_of_row, reopened}
use Rattle.mx_shard.specs.View.{ShardView}
use Rattle.mx_shard.proofs.AgainLemmas.{journal-again}
use Rattle.mx_world.specs.Parts.{IsSoundShard}
use Rattle.mx_engine.specs.Places.{place_code}
use Rattle.mx_engine.specs.Crashes.{AllSeen, IsShardInDock, IsShardOut, LeavesOnly, LeavesShard, IsShardExit, AreExits, last_of, IsSharedShard, ShardRemembers}
use Rattle.mx_engine.specs.declared.docked.DockedShard.{DockedShard}
use Rattle.mx_engine.proofs.DockCrashLemmas.{seen_in, seen_out, each_seen}
use Rattle.mx_engine.proofs.RecordLemmas.{record-longer}
use Rattle.mx_engine.proofs.KeptLemmas.{kept-longer}

-- ---- opened again over rows that begin with those of what was seen

behind-longer : (earlier xs ys : List Entry)
    → IsPrefix (reopened (stored_behind earlier xs)) (reopened (stored_behind earlier (xs ++ ys)))
behind-longer earlier [] ys = (reopened (stored_behind earlier ys), refl)
behind-longer earlier (x ∷ xs) ys =
    let later = behind-longer (earlier ++ x ∷ []) xs ys in
    (later.0, ap (λ es. entry_of_row (row_in (earlier ++ x ∷ []) x) ∷ es) later.1)

rows-begin : (seen more : List Entry) → AreWorkedOut seen → IsPrefix seen (reopened (stored (seen ++ more)))
rows-begin seen more ids =
    subst (λ es. IsPrefix es (reopened (stored (seen ++ more)))) (journal-again seen ids) (behind-longer [] seen more)

some-is : {A : Type 0} (x y : A) → Some x ≡ Some y → x ≡ y
some-is x y e = cc

-- what is left begins with the rows of the journal
abbrev pub LeavesAll : List Entry → Option (List ShardRow) → Type 0
LeavesAll journal left = (more : List Entry) × (left ≡ Some (stored (journal ++ more)))

module _ {K : Type 0} (is_ready is_honest is_open : K → Type 0) (read : K → Option (List ShardRow))
    (may_leave : K → Option (List ShardRow) → Type 0) where
  pub shard-remembers : (journal : List Entry) (left : Option (List ShardRow)) → LeavesAll journal left → (seen : List Entry)
      → IsPrefix seen journal → ShardRemembers is_ready is_honest read may_leave left seen
  shard-remembers journal left all seen later = λ ids keeper opened found over honest.
      let more : List Entry = later.0 ++ all.0 in
      let rows : stored (journal ++ all.0) ≡ stored opened.journal =
      some-is _ _ (sym all.1 ∙ sym found ∙ (over.rows honest).1) in
      let whole : journal ++ all.0 ≡ seen ++ more = ap (λ l. l ++ all.0) later.1 ∙ append_assoc seen later.0 all.0 in
      let is : opened.journal ≡ reopened (stored (seen ++ more)) = over.journal ∙ ap reopened (sym rows)
      ∙ ap (λ js. reopened (stored js)) whole in
      let begins : IsPrefix seen opened.journal = subst (IsPrefix seen) (sym is) (rows-begin seen more ids) in
      let records = record-longer seen opened.journal begins in
      record {
        entries = begins;
        records = records;
        events = λ room id v. kept-longer (record_of seen room) (record_of opened.journal room) (records room) id v;
      }

  -- ---- what is left

  -- each owner's seen entries are remembered
  pub all-remember : (journal : List Entry) (left : Option (List ShardRow)) (passes : List (PassView Entry))
      → LeavesAll journal left → AllSeen (λ seen. IsPrefix seen journal) passes
      → AllSeen (ShardRemembers is_ready is_honest read may_leave left) passes
  all-remember journal left passes all begins =
      each_seen (λ seen. IsPrefix seen journal) (ShardRemembers is_ready is_honest read may_leave left) passes
      (shard-remembers journal left all) begins

  pub leaves-all : (shard : ShardView K) → LeavesShard is_honest may_leave shard → is_honest shard.keeper
      → (left : Option (List ShardRow)) → may_leave shard.keeper left → LeavesAll shard.journal left
  leaves-all shard leaves honest left may = by (leaves honest left may)
    where
      by : (left ≡ Some (stored shard.journal))
          ⊎ ((shard.is_refused ≡ true) × (tried : Entry) × (left ≡ Some (stored (shard.journal ++ tried ∷ []))))
          → LeavesAll shard.journal left
      by (inl is) = ([], is ∙ ap (λ js. Some (stored js)) (sym (append-nil shard.journal)))
      by (inr (refused, tried, is)) = (tried ∷ [], is)

  -- within a call
  pub exit-leaves : (entries : List Entry) (old new : ShardView K) → LeavesShard is_honest may_leave old
      → IsShardExit is_honest may_leave entries old new
      → is_honest new.keeper → (left : Option (List ShardRow)) → may_leave new.keeper left → LeavesAll old.journal left
  exit-leaves entries old new leaves exit honest left may = by (exit.crash honest left may)
    where
      by : may_leave old.keeper left ⊎ (left ≡ Some (stored (old.journal ++ entries))) → LeavesAll old.journal left
      by (inl was) = leaves-all old leaves (exit.honest honest) left was
      by (inr is) = (entries, is)

  -- ---- what always holds of a shard, and what an open keeper leaves

  module _ (settled : (keeper : K) (left : Option (List ShardRow)) → is_honest keeper → is_open keeper
      → may_leave keeper left → left ≡ read keeper) where
    pub shard-whole : (shard : ShardView K) → IsSoundShard is_honest is_open read shard → shard.is_refused ≡ false
        → LeavesOnly is_honest may_leave shard.keeper (stored shard.journal)
    shard-whole shard sound taken honest left may = let rows =
        sound.rows taken honest in settled shard.keeper left honest rows.0 may ∙ rows.1

    refused-was : (old new : ShardView K) (left : Option (List ShardRow)) → new.is_refused ≡ true → new.journal ≡ old.journal
        → (left ≡ Some (stored old.journal))
        ⊎ ((old.is_refused ≡ true) × (tried : Entry) × (left ≡ Some (stored (old.journal ++ tried ∷ []))))
        → (left ≡ Some (stored new.journal))
        ⊎ ((new.is_refused ≡ true) × (tried : Entry) × (left ≡ Some (stored (new.journal ++ tried ∷ []))))
    refused-was old new left refused stays (inl is) = inl (is ∙ ap (λ js. Some (stored js)) (sym stays))
    refused-was old new left refused stays (inr (was, tried, is)) =
        inr (refused, tried, is ∙ ap (λ js. Some (stored (js ++ tried ∷ []))) (sym stays))

    refused-tried : (old new : ShardView K) (left : Option (List ShardRow)) (entries : List Entry) → new.is_refused ≡ true
        → new.journal ≡ old.journal → length entries ≤ 1
        → left ≡ Some (stored (old.journal ++ entries))
        → (left ≡ Some (stored new.journal))
        ⊎ ((new.is_refused ≡ true) × (tried : Entry) × (left ≡ Some (stored (new.journal ++ tried ∷ []))))
    refused-tried old new left [] refused stays few is =
        inl (is ∙ ap (λ js. Some (stored js)) (append-nil old.journal ∙ sym stays))
    refused-tried old new left (e ∷ []) refused stays few is =
        inr (refused, e, is ∙ ap (λ js. Some (stored (js ++ e ∷ []))) (sym stays))
    refused-tried old new left (e ∷ f ∷ es) refused stays few is = absurd (let no : ⊥ = omega (arith, few) in no)

    -- one call more
    exit-keeps : (entries : List Entry) (old new : ShardView K) (is_refused : Bool) → new.is_refused ≡ is_refused
        → IsSoundShard is_honest is_open read new → IsShardExit is_honest may_leave entries old new
        → LeavesShard is_honest may_leave old → LeavesShard is_honest may_leave new
    exit-keeps entries old new false taken sound exit leaves honest left may =
        inl (shard-whole new sound taken honest left may)
    exit-keeps entries old new true refused sound exit leaves honest left may = by (exit.crash honest left may)
      where
        by : may_leave old.keeper left ⊎ (left ≡ Some (stored (old.journal ++ entries)))
            → (left ≡ Some (stored new.journal))
            ⊎ ((new.is_refused ≡ true) × (tried : Entry) × (left ≡ Some (stored (new.journal ++ tried ∷ []))))
        by (inl was) = refused-was old new left refused (exit.refused refused) (leaves (exit.honest honest) left was)
        by (inr is) = refused-tried old new left entries refused (exit.refused refused) exit.few is

    exits-keep : (old : ShardView K) (later : List (ShardView K)) → LeavesShard is_honest may_leave old
        → AreExits (IsSoundShard is_honest is_open read)
        (λ was is. (entries : List Entry) × IsShardExit is_honest may_leave entries was is) old later
        → LeavesShard is_honest may_leave (last_of old later)
    exits-keep old [] leaves exits = leaves
    exits-keep old (new ∷ later) leaves exits =
        exits-keep new later (exit-keeps exits.1.0 old new new.is_refused refl exits.0 exits.1.1 leaves) exits.2

    pub shared-leaves : (shard : ShardView K) → IsSharedShard is_honest is_open read may_leave shard
        → LeavesShard is_honest may_leave shard
    shared-leaves shard shared =
        subst (LeavesShard is_honest may_leave) shared.last
        (exits-keep shared.first shared.later
        (λ honest left may. inl (shard-whole shared.first shared.sound shared.taken honest left may)) shared.calls)

-- ---- what the owners of berths have seen

module _ {K : Type 0} (shard : ShardView K) (passes : List (PassView Entry)) where
  pub in-seen : IsShardInDock shard passes → AllSeen (λ seen. IsPrefix seen shard.journal) passes
  in-seen lies =
      subst (λ (s : ShardView K). AllSeen (λ seen. IsPrefix seen s.journal) passes) lies.is
      (seen_in (λ (d : DockedShard K). d.shard.value.journal) (λ (e : Entry). e.caller)
      (λ (d : DockedShard K). place_code d.shard.value.place) lies.docked passes lies.dock)

  pub out-seen : IsShardOut shard passes → AllSeen (λ seen. IsPrefix seen shard.journal) passes
  out-seen out = seen_out (λ (d : DockedShard K). d.shard.value.journal) (λ (e : Entry). e.caller)
      (λ (d : DockedShard K). place_code d.shard.value.place) shard.journal passes out.dock out.out
