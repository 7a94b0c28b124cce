-- Transactions that are begun and not ended, in the journal of a book.
use Rattle.std.proofs.Common.{◌≡◌, ◌⊎◌, ℕ, ◌==◌, Bool, true, false, cond, true≢false, eq-eqb, List, [], ◌∷◌, ◌++◌, reverse, append-nil, Option, Some, None, refl, sym, ◌∙◌, ap, subst, inl, inr, ⊎_elim}
use Rattle.std.specs.Prelude.{All, Any, filter, find}
use Rattle.std.specs.Option.{option_or}
use Rattle.std.proofs.lemmas.List.{reverse-append}
use Rattle.std.proofs.lemmas.List.Elements.{All-head, All-push, All-tail, filter-append}
use Rattle.std.proofs.lemmas.List.Folds.{find-append}
use Rattle.mx_dock.specs.Journal.{since, entries_of}
use Rattle.mx_dock.proofs.ViewLemmas.{since_whole}
use Rattle.mx_book.specs.Transactions.{same}
use Rattle.mx_book.specs.Journal.{IsEnded, begun, free, hold_after, kept, last_of, transaction_of}
use Rattle.mx_book.specs.declared.transaction_keys.TransactionKey.{TransactionKey}
use Rattle.mx_book.specs.declared.entries.BookEntry.{BookEntry}
use Rattle.mx_book.specs.declared.entries.BookEntry.TheVariants.{Begun, Kept, GivenUp}
use Rattle.mx_engine.specs.Closing.{IsWhole}
use Rattle.mx_engine.specs.Places.{book_caller}
use Rattle.mx_engine.specs.Views.{BerthView}

-- ---- lists

module _ {A : Type 0} where
  none-is-not-some : (x : A) → None ≡ Some x → ⊥
  none-is-not-some x h = let e : None ≡ Some x = h in cc

  same-some : (x y : A) → Some x ≡ Some y → x ≡ y
  same-some x y h = let e : Some x ≡ Some y = h in cc

  either-some : (first second : Option A) (x : A) → option_or first second ≡ Some x → (first ≡ Some x) ⊎ (second ≡ Some x)
  either-some None second x h = inr h
  either-some (Some y) second x h = inl h

  All-reverse : (P : A → Type 0) (xs : List A) → All P xs → All P (reverse xs)
  All-reverse P [] all = all
  All-reverse P (x ∷ xs) all =
      subst (All P) (sym (reverse-append (x ∷ []) xs))
      (All-push P (reverse xs) x (All-reverse P xs (All-tail P x xs all)) (All-head P x xs all))

  filter-reverse : (keeps : A → Bool) (xs : List A) → filter keeps (reverse xs) ≡ reverse (filter keeps xs)
  filter-reverse keeps [] = refl
  filter-reverse keeps (x ∷ xs) =
      ap (filter keeps) (reverse-append (x ∷ []) xs)
      ∙ filter-append keeps (reverse xs) (x ∷ [])
      ∙ ap (λ l. l ++ filter keeps (x ∷ [])) (filter-reverse keeps xs)
      ∙ last (keeps x) (filter keeps xs)
    where
      last : (b : Bool) (us : List A) → reverse us ++ cond b (x ∷ []) [] ≡ reverse (cond b (x ∷ us) us)
      last true us = sym (reverse-append (x ∷ []) us)
      last false us = append-nil (reverse us)

  -- what holds of each element holds of the one that is found
  find-All : (P : A → Type 0) (test : A → Bool) (xs : List A) (found : A) → find test xs ≡ Some found → All P xs → P found
  find-All P test [] found h all = absurd (none-is-not-some found h)
  find-All P test (x ∷ xs) found h all = at (test x) h (λ later. find-All P test xs found later (All-tail P x xs all))
    where
      at : (b : Bool) → cond b (Some x) (find test xs) ≡ Some found → (find test xs ≡ Some found → P found) → P found
      at true here later = subst P (same-some x found here) (All-head P x xs all)
      at false here later = later here

  -- the first that passes a test is also the first among some of the elements, if it is one of them
  find-filter : (test keeps : A → Bool) (xs : List A) (found : A) → find test xs ≡ Some found → keeps found ≡ true
      → find test (filter keeps xs) ≡ Some found
  find-filter test keeps [] found h is_kept = absurd (none-is-not-some found h)
  find-filter test keeps (x ∷ xs) found h is_kept =
      at (filter keeps xs) (test x) (keeps x) refl refl h (λ later. find-filter test keeps xs found later is_kept)
    where
      at : (us : List A) (b c : Bool) → test x ≡ b → keeps x ≡ c → cond b (Some x) (find test xs) ≡ Some found
          → (find test xs ≡ Some found → find test us ≡ Some found) → find test (cond c (x ∷ us) us) ≡ Some found
      at us true true passes keep here later = ap (λ b. cond b (Some x) (find test us)) passes ∙ here
      at us true false passes keep here later =
          absurd (true≢false (sym is_kept ∙ ap keeps (sym (same-some x found here)) ∙ keep))
      at us false true passes keep here later = ap (λ b. cond b (Some x) (find test us)) passes ∙ later here
      at us false false passes keep here later = later here

-- ---- transactions

-- the last entry of a transaction that is begun
begun-entry : (last : Option BookEntry) (caller : ℕ) → hold_after last ≡ begun caller
    → (entry : BookEntry) × (last ≡ Some entry)
begun-entry None caller h = absurd (let e : free ≡ begun caller = h in cc)
begun-entry (Some entry) caller h = (entry, refl)

-- who began a transaction made the entry that says so
begun-by : (entry : BookEntry) (caller : ℕ) → hold_after (Some entry) ≡ begun caller → book_caller entry ≡ caller
begun-by (Begun key by) caller h = let e : begun by ≡ begun caller = h in cc
begun-by (Kept key by reply) caller h = absurd (let e : kept reply ≡ begun caller = h in cc)
begun-by (GivenUp key by) caller h = absurd (let e : free ≡ begun caller = h in cc)

-- a transaction's last entry is also its last among the entries of the caller that made it
last-own : (key : TransactionKey) (number : ℕ) (rest : List BookEntry) (entry : BookEntry) → last_of key rest ≡ Some entry
    → book_caller entry ≡ number → last_of key (entries_of book_caller number rest) ≡ Some entry
last-own key number rest entry last by =
    ap (find (λ e. same key (transaction_of e))) (sym (filter-reverse (λ e. book_caller e == number) rest))
    ∙ find-filter (λ e. same key (transaction_of e)) (λ e. book_caller e == number) (reverse rest) entry last
    (eq-eqb (book_caller entry) number by)

-- a transaction's last entry is not a beginning if it came since the opening
ended-since : (known : List (BerthView BookEntry)) (rest : List BookEntry)
    → All (λ e. Any (λ v. v.number ≡ book_caller e) known) rest
    → All (λ v. entries_of book_caller v.number rest ≡ v.added) known → All (λ v. IsEnded v.added) known →
    (key : TransactionKey) (caller : ℕ) (entry : BookEntry) → last_of key rest ≡ Some entry
    → hold_after (Some entry) ≡ begun caller → ⊥
ended-since known rest numbered added ended key caller entry last is_begun =
    let own = find-All (λ e. Any (λ v. v.number ≡ book_caller e) known) (λ e. same key (transaction_of e)) (reverse rest)
    entry last (All-reverse (λ e. Any (λ v. v.number ≡ book_caller e) known) rest numbered) in
    let added_here : entries_of book_caller own.1.number rest ≡ own.1.added =
    subst (λ v. entries_of book_caller v.number rest ≡ v.added) own.3 (added own.0 own.1 own.2) in
    let ended_here : IsEnded own.1.added = subst (λ v. IsEnded v.added) own.3 (ended own.0 own.1 own.2) in
    ended_here key caller
    (ap hold_after (ap (last_of key) (sym added_here) ∙ last-own key own.1.number rest entry last (sym own.4))
    ∙ is_begun)

-- the journal of a book is ended if it was ended at its opening and each caller has ended what it began
pub whole_ended : (opening : List BookEntry) (known : List (BerthView BookEntry)) (journal : List BookEntry) →
    IsWhole book_caller opening known journal → IsEnded opening → All (λ v. IsEnded v.added) known → IsEnded journal
whole_ended opening known journal whole ended all key caller h =
    let rest = since opening journal in
    let found = begun-entry (last_of key journal) caller h in
    let is_begun : hold_after (Some found.0) ≡ begun caller = ap hold_after (sym found.1) ∙ h in
    let parts : option_or (last_of key rest) (last_of key opening) ≡ Some found.0 =
    sym (find-append (λ e. same key (transaction_of e)) (reverse rest) (reverse opening))
    ∙ ap (find (λ e. same key (transaction_of e))) (sym (reverse-append opening rest))
    ∙ ap (last_of key) (sym (since_whole opening journal whole.opened))
    ∙ found.1 in
    ⊎_elim (λ last. ended-since known rest whole.numbered whole.added all key caller found.0 last is_begun)
    (λ last. ended key caller (ap hold_after last ∙ is_begun))
    (either-some (last_of key rest) (last_of key opening) found.0 parts)
