-- What a crash leaves, from the call of a shard or a book up to the steps of a server.
use Rattle.std.proofs.Common.{◌≡◌, ◌⊎◌, ℕ, ◌<◌, IsTrue, List, [], ◌∷◌, ◌++◌, length, get_or, set, take, Option, Some, None, refl, sym, ◌∙◌, ap, subst, arith, inl, inr, append-nil}
use Rattle.std.specs.Prelude.{if◌then◌else◌, Result, Ok, Err}
use Rattle.std.specs.Result.{IsErrAnd}
use mathlib.Core.Path.{fun_ext}
use Rattle.std.proofs.lemmas.Bool.{cases_eq}
use Rattle.std.proofs.lemmas.List.{get_or_default, get_or-set_same, get_or-set_other, length-set}
use Rattle.mx_keeper.specs.Places.{PlaceView, is_at}
use Rattle.mx_keeper.specs.declared.rows.ShardRow.{ShardRow}
use Rattle.mx_keeper.specs.declared.rows.BookRow.{BookRow}
use Rattle.mx_room.specs.Offer.{Offered}
use Rattle.mx_shard.specs.LoneRoom.{Call, call_room}
use Rattle.mx_shard.specs.Journal.{journal_after, stored as stored_events}
use Rattle.mx_shard.specs.View.{ShardView}
use Rattle.mx_book.specs.Journal.{Hold, free, begun, kept, begins, stored as stored_replies}
use Rattle.mx_book.specs.View.{BookView}
use Rattle.mx_book.specs.declared.transaction_keys.TransactionKey.{TransactionKey}
use Rattle.mx_book.specs.declared.entries.BookEntry.{BookEntry}
use Rattle.mx_book.specs.declared.entries.BookEntry.TheVariants.{Kept}
use Rattle.mx_book.proofs.StoredLemmas.{stored-begun}
use Rattle.mx_world.specs.Replies.{Status, waiting, status_after, body_of}
use Rattle.mx_world.specs.View.{WorldView}
use Rattle.mx_world.specs.Worlds.{status_in, start, IsAfter}
use Rattle.mx_world.specs.Crashes.{Leaves, AllLeave, journal_called, rows_called, rows_ended, ShardsLeave, BooksLeave, at_error, step_call, close_entry, step_entry, CrashLeaves}
use Rattle.mx_world.specs.declared.answers.Told.{Told}
use Rattle.mx_world.specs.declared.callers.TheConstants.{SOLE_CALLER}
use Rattle.mx_world.specs.declared.steps.Step.{Step}

-- ---- one shard or book, and all of them

module _ {V K Row : Type 0} (keeper : V → K) (rows : V → List Row) (is_honest : K → Type 0) (may_leave : K → Option (List Row) → Type 0) where
  -- nothing was stored
  pub leaves-same : (old new : V) (tried : List Row) → keeper new ≡ keeper old → rows new ≡ rows old → Leaves keeper rows is_honest may_leave old new tried
  leaves-same old new tried same still = record {
    honest = λ h. subst is_honest same h;
    crash = λ h left may. inr (inl (still, subst (λ k. may_leave k left) same may));
  }

  -- all rows of the journal were stored
  pub leaves-stored : (old new : V) (tried : List Row) → (is_honest (keeper new) → is_honest (keeper old)) → (is_honest (keeper new) → (left : Option (List Row)) → may_leave (keeper new) left → left ≡ Some (rows new)) → Leaves keeper rows is_honest may_leave old new tried
  leaves-stored old new tried honest durable = record {
    honest = honest;
    crash = λ h left may. inl (durable h left may);
  }

  either : (old new : V) (tried : List Row) (left : Option (List Row)) → rows new ≡ rows old → may_leave (keeper old) left ⊎ (left ≡ Some tried) → (left ≡ Some (rows new)) ⊎ (((rows new ≡ rows old) × may_leave (keeper old) left) ⊎ (left ≡ Some tried))
  either old new tried left still (inl was) = inr (inl (still, was))
  either old new tried left still (inr is) = inr (inr is)

  -- a call was refused
  pub leaves-tried : (old new : V) (tried : List Row) → rows new ≡ rows old → (is_honest (keeper new) → is_honest (keeper old)) → (is_honest (keeper new) → (left : Option (List Row)) → may_leave (keeper new) left → may_leave (keeper old) left ⊎ (left ≡ Some tried)) →
      Leaves keeper rows is_honest may_leave old new tried
  leaves-tried old new tried still honest crash = record {
    honest = honest;
    crash = λ h left may. either old new tried left still (crash h left may);
  }

  earlier : (a b c : V) (tried : List Row) (left : Option (List Row)) → rows c ≡ rows b → (left ≡ Some (rows b)) ⊎ (((rows b ≡ rows a) × may_leave (keeper a) left) ⊎ (left ≡ Some (rows b))) →
      (left ≡ Some (rows c)) ⊎ (((rows c ≡ rows a) × may_leave (keeper a) left) ⊎ (left ≡ Some tried))
  earlier a b c tried left same (inl is) = inl (is ∙ ap (λ rs. Some rs) (sym same))
  earlier a b c tried left same (inr (inl (still, was))) = inr (inl (same ∙ still, was))
  earlier a b c tried left same (inr (inr is)) = inl (is ∙ ap (λ rs. Some rs) (sym same))

  since : (a b c : V) (tried : List Row) (left : Option (List Row)) → Leaves keeper rows is_honest may_leave a b (rows b) → is_honest (keeper b) → (left ≡ Some (rows c)) ⊎ (((rows c ≡ rows b) × may_leave (keeper b) left) ⊎ (left ≡ Some tried)) →
      (left ≡ Some (rows c)) ⊎ (((rows c ≡ rows a) × may_leave (keeper a) left) ⊎ (left ≡ Some tried))
  since a b c tried left h honest (inl is) = inl is
  since a b c tried left h honest (inr (inl (same, was))) = earlier a b c tried left same (h.crash honest left was)
  since a b c tried left h honest (inr (inr is)) = inr (inr is)

  -- two steps, of which the first was not refused
  pub leaves-more : (a b c : V) (tried : List Row) → Leaves keeper rows is_honest may_leave a b (rows b) → Leaves keeper rows is_honest may_leave b c tried → Leaves keeper rows is_honest may_leave a c tried
  leaves-more a b c tried h k = record {
    honest = λ x. h.honest (k.honest x);
    crash = λ x left may. since a b c tried left h (k.honest x) (k.crash x left may);
  }

  pub leave-same : (tried : V → List Row) (views : List V) → AllLeave keeper rows is_honest may_leave tried views views
  leave-same tried views = record { long = refl; each = λ n d. leaves-same (get_or views n d) (get_or views n d) (tried (get_or views n d)) refl refl }

  pub leave-more : (tried : V → List Row) (a b c : List V) → AllLeave keeper rows is_honest may_leave rows a b → AllLeave keeper rows is_honest may_leave tried b c → AllLeave keeper rows is_honest may_leave tried a c
  leave-more tried a b c h k = record {
    long = k.long ∙ h.long;
    each = λ n d. leaves-more (get_or a n d) (get_or b n d) (get_or c n d) (tried (get_or c n d)) (h.each n d) (k.each n d);
  }

  -- one of them is called
  pub leave-set : (tried : V → List Row) (views : List V) (n : ℕ) (d v : V) → n < length views → Leaves keeper rows is_honest may_leave (get_or views n d) v (tried v) → AllLeave keeper rows is_honest may_leave tried views (set views n v)
  leave-set tried views n d v l h = record {
    long = length-set views n v;
    each = λ k e. elim (cases_eq k n) [
      | inl same ↦
          subst (λ i. Leaves keeper rows is_honest may_leave (get_or views i e) (get_or (set views n v) i e) (tried (get_or (set views n v) i e))) (sym same)
          (subst (λ w. Leaves keeper rows is_honest may_leave (get_or views n e) w (tried w)) (sym (get_or-set_same views n v e l))
          (subst (λ w. Leaves keeper rows is_honest may_leave w v (tried v)) (get_or_default views n d e l) h))
      | inr other ↦
          subst (λ w. Leaves keeper rows is_honest may_leave (get_or views k e) w (tried w)) (sym (get_or-set_other views n k v e other))
          (leaves-same (get_or views k e) (get_or views k e) (tried (get_or views k e)) refl refl)
    ];
  }

-- ---- what was refused

pub at-error : {A E B : Type 0} (r : Result A E) (cause : E) (tried : Option B) → IsErrAnd r (λ e. e ≡ cause) → at_error r tried ≡ tried
at-error (Ok a) cause tried h = absurd h
at-error (Err e) cause tried h = refl

pub at-error-none : {A E B : Type 0} (r : Result A E) → at_error {B = B} r None ≡ None
at-error-none (Ok a) = refl
at-error-none (Err e) = refl

pub shards-refused : {K A E : Type 0} (is_honest : K → Type 0) (may_leave : K → Option (List ShardRow) → Type 0) (r : Result A E) (cause : E) (tried : Option Call) (olds news : List (ShardView K)) → IsErrAnd r (λ e. e ≡ cause) → ShardsLeave is_honest may_leave tried olds news →
    ShardsLeave is_honest may_leave (at_error r tried) olds news
shards-refused is_honest may_leave r cause tried olds news refused h = subst (λ o. ShardsLeave is_honest may_leave o olds news) (sym (at-error r cause tried refused)) h

pub books-refused : {L A E : Type 0} (is_honest : L → Type 0) (may_leave : L → Option (List BookRow) → Type 0) (r : Result A E) (cause : E) (tried : Option BookEntry) (olds news : List (BookView L)) → IsErrAnd r (λ e. e ≡ cause) → BooksLeave is_honest may_leave tried olds news →
    BooksLeave is_honest may_leave (at_error r tried) olds news
books-refused is_honest may_leave r cause tried olds news refused h = subst (λ o. BooksLeave is_honest may_leave o olds news) (sym (at-error r cause tried refused)) h

-- the entry of a transaction that has no event left
pub close-entry : (p : TransactionKey) (rest : List Offered) (told : List Told) (n : ℕ) (reply : List ℕ) → n ≡ length rest → n ≡ 0 → reply ≡ body_of told → Some (Kept p SOLE_CALLER reply) ≡ close_entry p (waiting rest told)
close-entry p [] told n reply is none same = ap (λ body. Some (Kept p SOLE_CALLER body)) same
close-entry p (o ∷ rest) told n reply is none same = absurd (omega arith)

-- what a step tried at an error is what the step that was refused tried
pub call-at-error : {A E : Type 0} (r : Result A E) (status : TransactionKey → Status) (step : Step) → at_error r (step_call status (Some step)) ≡ step_call status (at_error r (Some step))
call-at-error (Ok a) status step = refl
call-at-error (Err e) status step = refl

pub entry-at-error : {A E : Type 0} (r : Result A E) (status : TransactionKey → Status) (step : Step) → at_error r (step_entry status (Some step)) ≡ step_entry status (at_error r (Some step))
entry-at-error (Ok a) status step = refl
entry-at-error (Err e) status step = refl

-- ---- a call of a shard

module _ {K : Type 0} (is_honest : K → Type 0) (may_leave : K → Option (List ShardRow) → Type 0) (shards : List (ShardView K)) (n : ℕ) (d new : ShardView K) (l : n < length shards) (honest : is_honest new.keeper → is_honest (get_or shards n d).keeper) where
  pub shard-stored : (is_honest new.keeper → (left : Option (List ShardRow)) → may_leave new.keeper left → left ≡ Some (stored_events new.journal)) → ShardsLeave is_honest may_leave None shards (set shards n new)
  shard-stored durable =
      leave-set (λ shard. shard.keeper) (λ shard. stored_events shard.journal) is_honest may_leave (rows_called None) shards n d new l
      (leaves-stored (λ shard. shard.keeper) (λ shard. stored_events shard.journal) is_honest may_leave (get_or shards n d) new (stored_events new.journal) honest durable)

  -- the rows that it tried
  called-here : (caller : ℕ) (room : List ℕ) (call : Call) → call_room call ≡ Some room → caller ≡ SOLE_CALLER → IsTrue (is_at (get_or shards n d).place room) → new.place ≡ (get_or shards n d).place → new.journal ≡ (get_or shards n d).journal →
      stored_events (journal_after (get_or shards n d).journal caller room call) ≡ rows_called (Some call) new
  called-here caller room call named sole here place same =
      ap (λ c. stored_events (journal_after (get_or shards n d).journal c room call)) sole
      ∙ ap (λ b. stored_events (if b then journal_after (get_or shards n d).journal SOLE_CALLER room call else (get_or shards n d).journal)) (sym here)
      ∙ ap (λ j. stored_events (journal_called (get_or shards n d).place j call (Some room))) (sym same)
      ∙ ap (λ p. stored_events (journal_called p new.journal call (Some room))) (sym place)
      ∙ ap (λ o. stored_events (journal_called new.place new.journal call o)) (sym named)

  pub shard-tried : {A E : Type 0} (r : Result A E) (cause : E) (caller : ℕ) (room : List ℕ) (call : Call) → IsErrAnd r (λ e. e ≡ cause) → call_room call ≡ Some room → caller ≡ SOLE_CALLER → IsTrue (is_at (get_or shards n d).place room) → new.place ≡ (get_or shards n d).place → new.journal ≡ (get_or shards n d).journal →
      (is_honest new.keeper → (left : Option (List ShardRow)) → may_leave new.keeper left → may_leave (get_or shards n d).keeper left ⊎ (left ≡ Some (stored_events (journal_after (get_or shards n d).journal caller room call)))) →
      ShardsLeave is_honest may_leave (at_error r (Some call)) shards (set shards n new)
  shard-tried r cause caller room call refused named sole here place same crash =
      subst (λ o. ShardsLeave is_honest may_leave o shards (set shards n new)) (sym (at-error r cause (Some call) refused))
      (leave-set (λ shard. shard.keeper) (λ shard. stored_events shard.journal) is_honest may_leave (rows_called (Some call)) shards n d new l
      (subst (λ tried. Leaves (λ shard. shard.keeper) (λ shard. stored_events shard.journal) is_honest may_leave (get_or shards n d) new tried) (called-here caller room call named sole here place same)
      (leaves-tried (λ shard. shard.keeper) (λ shard. stored_events shard.journal) is_honest may_leave (get_or shards n d) new (stored_events (journal_after (get_or shards n d).journal caller room call)) (ap stored_events same) honest crash)))

-- ---- a call of a book

-- a transaction that is begun has no row yet
pub stored-begins : (journal journal' : List BookEntry) (key : TransactionKey) (caller : ℕ) (hold : Hold) → journal' ≡ journal ++ begins key caller hold → stored_replies journal' ≡ stored_replies journal
stored-begins journal journal' key caller free is = stored-begun journal journal' key caller is
stored-begins journal journal' key caller (begun other) is = ap stored_replies (is ∙ append-nil journal)
stored-begins journal journal' key caller (kept reply) is = ap stored_replies (is ∙ append-nil journal)

module _ {L : Type 0} (is_honest : L → Type 0) (may_leave : L → Option (List BookRow) → Type 0) (books : List (BookView L)) (n : ℕ) (d new : BookView L) (l : n < length books) where
  -- nothing is stored
  pub book-same : new.keeper ≡ (get_or books n d).keeper → stored_replies new.journal ≡ stored_replies (get_or books n d).journal → BooksLeave is_honest may_leave None books (set books n new)
  book-same same still =
      leave-set (λ book. book.keeper) (λ book. stored_replies book.journal) is_honest may_leave (rows_ended None) books n d new l
      (leaves-same (λ book. book.keeper) (λ book. stored_replies book.journal) is_honest may_leave (get_or books n d) new (stored_replies new.journal) same still)

  pub book-stored : (is_honest new.keeper → is_honest (get_or books n d).keeper) → (is_honest new.keeper → (left : Option (List BookRow)) → may_leave new.keeper left → left ≡ Some (stored_replies new.journal)) → BooksLeave is_honest may_leave None books (set books n new)
  book-stored honest durable =
      leave-set (λ book. book.keeper) (λ book. stored_replies book.journal) is_honest may_leave (rows_ended None) books n d new l
      (leaves-stored (λ book. book.keeper) (λ book. stored_replies book.journal) is_honest may_leave (get_or books n d) new (stored_replies new.journal) honest durable)

  ended-here : (caller : ℕ) (key : TransactionKey) (reply : List ℕ) → caller ≡ SOLE_CALLER → IsTrue (is_at (get_or books n d).place key.origin) → new.place ≡ (get_or books n d).place → new.journal ≡ (get_or books n d).journal →
      stored_replies ((get_or books n d).journal ++ Kept key caller reply ∷ []) ≡ rows_ended (Some (Kept key SOLE_CALLER reply)) new
  ended-here caller key reply sole here place same =
      ap (λ c. stored_replies ((get_or books n d).journal ++ Kept key c reply ∷ [])) sole
      ∙ ap (λ b. stored_replies (if b then (get_or books n d).journal ++ Kept key SOLE_CALLER reply ∷ [] else (get_or books n d).journal)) (sym here)
      ∙ ap (λ j. stored_replies (if is_at (get_or books n d).place key.origin then j ++ Kept key SOLE_CALLER reply ∷ [] else j)) (sym same)
      ∙ ap (λ (p : PlaceView). stored_replies (if is_at p key.origin then new.journal ++ Kept key SOLE_CALLER reply ∷ [] else new.journal)) (sym place)

  pub book-tried : {A E : Type 0} (r : Result A E) (cause : E) (caller : ℕ) (key : TransactionKey) (reply : List ℕ) → IsErrAnd r (λ e. e ≡ cause) → caller ≡ SOLE_CALLER → IsTrue (is_at (get_or books n d).place key.origin) → new.place ≡ (get_or books n d).place → new.journal ≡ (get_or books n d).journal →
      (is_honest new.keeper → is_honest (get_or books n d).keeper) →
      (is_honest new.keeper → (left : Option (List BookRow)) → may_leave new.keeper left → may_leave (get_or books n d).keeper left ⊎ (left ≡ Some (stored_replies ((get_or books n d).journal ++ Kept key caller reply ∷ [])))) →
      BooksLeave is_honest may_leave (at_error r (Some (Kept key SOLE_CALLER reply))) books (set books n new)
  book-tried r cause caller key reply refused sole here place same honest crash =
      subst (λ o. BooksLeave is_honest may_leave o books (set books n new)) (sym (at-error r cause (Some (Kept key SOLE_CALLER reply)) refused))
      (leave-set (λ book. book.keeper) (λ book. stored_replies book.journal) is_honest may_leave (rows_ended (Some (Kept key SOLE_CALLER reply))) books n d new l
      (subst (λ tried. Leaves (λ book. book.keeper) (λ book. stored_replies book.journal) is_honest may_leave (get_or books n d) new tried) (ended-here caller key reply sole here place same)
      (leaves-tried (λ book. book.keeper) (λ book. stored_replies book.journal) is_honest may_leave (get_or books n d) new (stored_replies ((get_or books n d).journal ++ Kept key caller reply ∷ [])) (ap stored_replies same) honest crash)))

-- nothing was called
pub shards-leave : {K : Type 0} (is_honest : K → Type 0) (may_leave : K → Option (List ShardRow) → Type 0) (tried : Option Call) (shards : List (ShardView K)) → ShardsLeave is_honest may_leave tried shards shards
shards-leave is_honest may_leave tried shards = leave-same (λ shard. shard.keeper) (λ shard. stored_events shard.journal) is_honest may_leave (rows_called tried) shards

pub books-leave : {L : Type 0} (is_honest : L → Type 0) (may_leave : L → Option (List BookRow) → Type 0) (tried : Option BookEntry) (books : List (BookView L)) → BooksLeave is_honest may_leave tried books books
books-leave is_honest may_leave tried books = leave-same (λ book. book.keeper) (λ book. stored_replies book.journal) is_honest may_leave (rows_ended tried) books

-- ---- a server

module _ {K L : Type 0} (f : K → Type 0) (f' : K → Option (List ShardRow) → Type 0) (g : L → Type 0) (g' : L → Option (List BookRow) → Type 0) where
  -- nothing was done
  pub rows-same : (status : TransactionKey → Status) (refused : Option Step) (w : WorldView K L) → CrashLeaves f f' g g' status refused w w
  rows-same status refused w = record {
    shards = shards-leave f f' (step_call status refused) w.shards;
    books = books-leave g g' (step_entry status refused) w.books;
  }

  -- one step more
  pub rows-more : (status since : TransactionKey → Status) (refused : Option Step) (a b c : WorldView K L) → CrashLeaves f f' g g' since None a b → CrashLeaves f f' g g' status refused b c → CrashLeaves f f' g g' status refused a c
  rows-more status since refused a b c h k = record {
    shards = leave-more (λ shard. shard.keeper) (λ shard. stored_events shard.journal) f f' (rows_called (step_call status refused)) a.shards b.shards c.shards h.shards k.shards;
    books = leave-more (λ book. book.keeper) (λ book. stored_replies book.journal) g g' (rows_ended (step_entry status refused)) a.books b.books c.books h.books k.books;
  }

  -- where none was refused no status counts
  pub rows-any : (status other : TransactionKey → Status) (old new : WorldView K L) → CrashLeaves f f' g g' status None old new → CrashLeaves f f' g g' other None old new
  rows-any status other old new h = record { shards = h.shards; books = h.books }

  -- a step of the parts
  pub rows-step : {A E : Type 0} (r : Result A E) (status : TransactionKey → Status) (step : Step) (old new : WorldView K L) → ShardsLeave f f' (at_error r (step_call status (Some step))) old.shards new.shards → BooksLeave g g' (at_error r (step_entry status (Some step))) old.books new.books →
      CrashLeaves f f' g g' status (at_error r (Some step)) old new
  rows-step r status step old new h k = record {
    shards = subst (λ o. ShardsLeave f f' o old.shards new.shards) (call-at-error r status step) h;
    books = subst (λ o. BooksLeave g g' o old.books new.books) (entry-at-error r status step) k;
  }

  -- a step that is refused
  pub rows-refused : {A E : Type 0} (r : Result A E) (cause : E) (status : TransactionKey → Status) (step : Step) (old new : WorldView K L) → IsErrAnd r (λ e. e ≡ cause) → ShardsLeave f f' (step_call status (Some step)) old.shards new.shards → BooksLeave g g' (step_entry status (Some step)) old.books new.books →
      CrashLeaves f f' g g' status (at_error r (Some step)) old new
  rows-refused r cause status step old new refused h k = subst (λ o. CrashLeaves f f' g g' status o old new) (sym (at-error r cause (Some step) refused)) (record { shards = h; books = k })

  -- a step that tries to leave no row
  pub rows-opened : {A E : Type 0} (r : Result A E) (status : TransactionKey → Status) (step : Step) (old new : WorldView K L) → step_entry status (Some step) ≡ None → new.shards ≡ old.shards → BooksLeave g g' None old.books new.books →
      CrashLeaves f f' g g' status (at_error r (Some step)) old new
  rows-opened r status step old new no_entry same k =
      rows-step r status step old new (subst (λ shards. ShardsLeave f f' (at_error r (step_call status (Some step))) old.shards shards) (sym same) (shards-leave f f' (at_error r (step_call status (Some step))) old.shards))
      (subst (λ o. BooksLeave g g' o old.books new.books) (sym (ap (at_error r) no_entry ∙ at-error-none r)) k)

  -- the step that stops a run
  pub run-leaves : (a b c : WorldView K L) (steps : List Step) (n m : ℕ) (x d : Step) → n ≡ m → m < length steps → x ≡ get_or steps m x → IsAfter (start a) (take m steps) b → CrashLeaves f f' g g' (status_in a) None a b → CrashLeaves f f' g g' (status_in b) (Some x) b c →
      CrashLeaves f f' g g' (status_after (start a) (take n steps)) (Some (get_or steps n d)) a c
  run-leaves a b c steps n m x d same l is now h k =
      subst (λ i. CrashLeaves f f' g g' (status_after (start a) (take i steps)) (Some (get_or steps i d)) a c) (sym same)
      (subst (λ y. CrashLeaves f f' g g' (status_after (start a) (take m steps)) (Some y) a c) (is ∙ get_or_default steps m x d l)
      (subst (λ status. CrashLeaves f f' g g' status (Some x) a c) (fun_ext now.statuses)
      (rows-more (status_in b) (status_in a) (Some x) a b c h k)))
