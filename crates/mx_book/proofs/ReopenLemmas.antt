-- A journal of the rows that were found.
use Rattle.std.proofs.Common.{◌≡◌, ℕ, Bool, true, false, IsTrue, List, [], ◌∷◌, ◌++◌, length, Option, None, Some, refl, sym, ◌∙◌, ap, subst, append_assoc, append-nil, arith}
use Rattle.std.specs.Prelude.{◌&&◌, ◌↔◌, ◌<◌, ◌==◌, All, is_some, Result, Ok, Err}
use Rattle.std.specs.Result.{IsErrAnd}
use Rattle.std.specs.List.{list_all}
use Rattle.std.specs.Ordering.{is_eq}
use Rattle.std.specs.BTreeMap.{BTreeMap, get, btree_map_len}
use Rattle.std.proofs.lemmas.Bool.{false≢true}
use Rattle.std.proofs.lemmas.Bool.Decides.{nat_tests}
use Rattle.std.proofs.lemmas.List.{map-append}
use Rattle.std.proofs.lemmas.List.Elements.{All-append}
use Rattle.std.proofs.lemmas.List.Folds.{list_all-append}
use Rattle.mx_keeper.specs.Places.{PlaceView, is_at}
use Rattle.mx_keeper.specs.declared.rows.BookRow.{BookRow}
use Rattle.mx_keeper.specs.declared.refusals.CallError.{CallError}
use Rattle.mx_keeper.specs.declared.refusals.CallError.TheVariants.{Storage}
use Rattle.mx_book.specs.Transactions.{transaction_cmp}
use Rattle.mx_book.specs.Journal.{transaction_of, last_of, free, hold_of, hold_after, follows, is_legal, is_legal_after, stored, entry_of, reopened, can_reopen, no_caller}
use Rattle.mx_book.specs.Inside.{hold_at, is_kept, hold_found, IsMoved, IsReopened}
use Rattle.mx_book.specs.declared.transaction_keys.TransactionKey.{TransactionKey}
use Rattle.mx_book.specs.declared.entries.BookEntry.{BookEntry}
use Rattle.mx_book.specs.declared.entries.BookEntry.TheVariants.{Begun, Kept, GivenUp}
use Rattle.mx_book.proofs.JournalLemmas.{is_legal-push, all_one, found_is}
use Rattle.mx_book.proofs.IndexLemmas.{indexed_reply, same_caller, stays, none_in}

-- ---- a transaction that has no entry

-- where each entry keeps a reply, what is free has none
may_come_first : (key : TransactionKey) (reply : List ℕ) (last : Option BookEntry) → ((entry : BookEntry) → last ≡ Some entry → is_kept (hold_after (Some entry)) ≡ true) → hold_after last ≡ free → follows last (Kept key no_caller reply) ≡ true
may_come_first key reply None all h = same_caller no_caller
may_come_first key reply (Some entry) all h = absurd (false≢true (sym (ap is_kept h) ∙ all entry refl))

-- ---- one row more

module _ (place : PlaceView) (journal : List BookEntry) (callers places : BTreeMap TransactionKey ℕ) (replies : List (List ℕ)) (key : TransactionKey) (reply : List ℕ) (was : IsReopened place journal callers places replies) where
  none-begun : get transaction_cmp callers key ≡ None
  none-begun = none_in callers.entries (λ q. is_eq (transaction_cmp key q)) was.none

  hold-is : hold_of journal key ≡ hold_at replies (get transaction_cmp places key)
  hold-is = was.indexed.states key ∙ ap (λ o. hold_found o (hold_at replies (get transaction_cmp places key))) none-begun

  pub reopen-step : (journal' : List BookEntry) (places' : BTreeMap TransactionKey ℕ) (replies' : List (List ℕ)) → IsTrue (is_at place key.origin) → get transaction_cmp places key ≡ None
      → journal' ≡ journal ++ Kept key no_caller reply ∷ [] → replies' ≡ replies ++ reply ∷ [] → IsMoved places places' key (Some (length replies)) → IsReopened place journal' callers places' replies'
  reopen-step journal' places' replies' here none e longer moved = record {
    indexed = indexed_reply journal journal' callers callers places replies key no_caller was.indexed places' replies' reply e longer (stays callers key none-begun) moved;
    none = was.none;
    kept = subst (All (λ e. is_kept (hold_after (Some e)) ≡ true)) (sym e) (All-append (λ e. is_kept (hold_after (Some e)) ≡ true) journal (Kept key no_caller reply ∷ []) was.kept (all_one (λ e. is_kept (hold_after (Some e)) ≡ true) (Kept key no_caller reply) refl));
    here = subst (All (λ e. IsTrue (is_at place (transaction_of e).origin))) (sym e) (All-append (λ e. IsTrue (is_at place (transaction_of e).origin)) journal (Kept key no_caller reply ∷ []) was.here (all_one (λ e. IsTrue (is_at place (transaction_of e).origin)) (Kept key no_caller reply) here));
    legal = subst (λ js. IsTrue (is_legal js)) (sym e) (is_legal-push journal (Kept key no_caller reply) was.legal (may_come_first key reply (last_of key journal) (λ entry is. found_is (λ e. is_kept (hold_after (Some e)) ≡ true) key journal entry was.kept is) (hold-is ∙ ap (hold_at replies) none)));
  }

  kept-follows : (last : Option BookEntry) → is_kept (hold_after last) ≡ true → follows last (Kept key no_caller reply) ≡ false
  kept-follows None h = absurd (false≢true h)
  kept-follows (Some (Begun own caller)) h = absurd (false≢true h)
  kept-follows (Some (Kept own caller other)) h = refl
  kept-follows (Some (GivenUp own caller)) h = absurd (false≢true h)

  -- a transaction that has a reply gets no second one
  pub twice : (n : ℕ) → get transaction_cmp places key ≡ Some n → follows (last_of key journal) (Kept key no_caller reply) ≡ false
  twice n found =
      kept-follows (last_of key journal) (ap is_kept (hold-is ∙ ap (hold_at replies) found) ∙ was.indexed.replied key n found)

-- ---- rows that no book has

and-false : (a : Bool) → (a && false) ≡ false
and-false true = refl
and-false false = refl

-- an entry that may not follow those before it
middle : (earlier xs : List BookEntry) (e : BookEntry) (ys : List BookEntry) → follows (last_of (transaction_of e) (earlier ++ xs)) e ≡ false → is_legal_after earlier (xs ++ e ∷ ys) ≡ false
middle earlier [] e ys h =
    ap (λ b. b && is_legal_after (earlier ++ e ∷ []) ys) (ap (λ js. follows (last_of (transaction_of e) js) e) (sym (append-nil earlier)) ∙ h)
middle earlier (x ∷ xs) e ys h =
    ap (λ b. follows (last_of (transaction_of x) earlier) x && b)
    (middle (earlier ++ x ∷ []) xs e ys (ap (λ js. follows (last_of (transaction_of e) js) e) (append_assoc earlier (x ∷ []) xs) ∙ h))
    ∙ and-false (follows (last_of (transaction_of x) earlier) x)

module _ (place : PlaceView) (rows later : List BookRow) (row : BookRow) where
  pub elsewhere : is_at place row.origin ≡ false → can_reopen place (rows ++ row ∷ later) ≡ false
  elsewhere h =
      ap (λ b. b && is_legal (reopened (rows ++ row ∷ later)))
      (list_all-append (λ r. is_at place r.origin) rows (row ∷ later)
      ∙ ap (λ b. list_all (λ r. is_at place r.origin) rows && (b && list_all (λ r. is_at place r.origin) later)) h
      ∙ and-false (list_all (λ r. is_at place r.origin) rows))

  pub repeated : follows (last_of (transaction_of (entry_of row)) (reopened rows)) (entry_of row) ≡ false → can_reopen place (rows ++ row ∷ later) ≡ false
  repeated h =
      ap (λ b. list_all (λ r. is_at place r.origin) (rows ++ row ∷ later) && b)
      (ap is_legal (map-append entry_of rows (row ∷ later)) ∙ middle [] (reopened rows) (entry_of row) (reopened later) h)
      ∙ and-false (list_all (λ r. is_at place r.origin) (rows ++ row ∷ later))

-- ---- the rows of the journal

pub stored-reopened : (rows : List BookRow) → stored (reopened rows) ≡ rows
stored-reopened [] = refl
stored-reopened (row ∷ rows) = ap (λ rs. row ∷ rs) (stored-reopened rows)

-- ---- look-ups

pub none-of : (o : Option ℕ) → is_some o ≡ false → o ≡ None
none-of None h = refl
none-of (Some n) h = absurd (false≢true (sym h))

pub some-of : (o : Option ℕ) → is_some o ≡ true → (n : ℕ) × (o ≡ Some n)
some-of None h = absurd (false≢true h)
some-of (Some n) h = (n, refl)

-- ---- no rows

pub reopen-none : (place : PlaceView) (journal : List BookEntry) (callers places : BTreeMap TransactionKey ℕ) (replies : List (List ℕ)) → journal ≡ [] → btree_map_len callers ≡ 0 → btree_map_len places ≡ 0 → replies ≡ [] → IsReopened place journal callers places replies
reopen-none place journal callers places replies e no-callers no-places no-replies =
    subst (λ js. IsReopened place js callers places replies) (sym e) record {
      indexed = record {
        states = λ p. sym (ap (λ o. hold_found o (hold_at replies (get transaction_cmp places p))) (nothing callers no-callers p) ∙ ap (hold_at replies) (nothing places no-places p));
        apart = λ p caller k. nothing places no-places p;
        within = λ p n k. absurd (none_some n (sym (nothing places no-places p) ∙ k));
        replied = λ p n k. absurd (none_some n (sym (nothing places no-places p) ∙ k));
        all = no-replies;
      };
      none = no-callers;
      kept = λ k d l. absurd (omega arith);
      here = λ k d l. absurd (omega arith);
      legal = refl;
    }
  where
    nothing : (m : BTreeMap TransactionKey ℕ) → btree_map_len m ≡ 0 → (p : TransactionKey) → get transaction_cmp m p ≡ None
    nothing m h p = none_in m.entries (λ q. is_eq (transaction_cmp p q)) h

    none_some : (n : ℕ) → None ≡ Some n → ⊥
    none_some n k = cc

-- a book has no entry where there were no rows
pub blank-reopened : (blank : Bool) (count : ℕ) (rows : List BookRow) (journal : List BookEntry) → blank ≡ (count == 0) → count ≡ length rows → journal ≡ reopened rows → IsTrue blank ↔ (journal ≡ [])
blank-reopened blank count [] journal is counted e = (λ _. e, λ _. is ∙ none count counted)
  where
    none : (n : ℕ) → n ≡ 0 → (n == 0) ≡ true
    none n l = grind (arith, nat_tests)
blank-reopened blank count (row ∷ rows) journal is counted e =
    (λ b. absurd (false≢true (sym (is ∙ some count (omega arith)) ∙ b)), λ k. absurd (let e' : entry_of row ∷ reopened rows ≡ [] = sym e ∙ k in cc))
  where
    some : (n : ℕ) → 0 < n → (n == 0) ≡ false
    some n l = grind (arith, nat_tests)

pub no-more : (rest : List BookRow) → length rest ≡ 0 → rest ≡ []
no-more [] h = refl
no-more (row ∷ rows) h = absurd (omega arith)

-- ---- refusals

-- a refusal for want of storage that is handed on was one
pub is-storage : {A : Type 0} (r : Result A CallError) (cause : CallError) → IsErrAnd r (λ e. e ≡ cause) → r ≡ Err Storage → cause ≡ Storage
is-storage (Ok x) cause h is = absurd h
is-storage (Err e) cause h is = let same : e ≡ Storage = cc is in sym h ∙ same
