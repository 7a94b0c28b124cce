-- A journal with one entry more.
use Rattle.std.proofs.Common.{◌≡◌, ℕ, suc, zero, ◌<◌, length, get_or, arith, Bool, true, false, cond, IsTrue, List, [], ◌∷◌, ◌++◌, reverse, Option, Some, None, refl, sym, ◌∙◌, ap, subst, append_assoc, append-nil}
use Rattle.std.specs.Prelude.{find, All, bytes_eq, ◌&&◌}
use Rattle.std.specs.List.{filter_map}
use Rattle.std.proofs.lemmas.Bool.{false≢true, and_parts, and_from}
use Rattle.std.proofs.lemmas.List.{reverse-append}
use Rattle.std.proofs.lemmas.List.Elements.{filter_map-append, All-append}
use Rattle.std.proofs.lemmas.Slice.Eq.{bytes_eq-Decides}
use Rattle.mx_book.specs.Transactions.{same}
use Rattle.mx_book.specs.Journal.{transaction_of, last_of, free, begun, hold_after, hold_of, follows, is_legal, is_legal_after, row_of, stored}
use Rattle.mx_book.specs.declared.transaction_keys.TransactionKey.{TransactionKey}
use Rattle.mx_book.specs.declared.entries.BookEntry.{BookEntry}

pub same-self : (p : TransactionKey) → same p p ≡ true
same-self p = and_from (bytes_eq p.origin p.origin) (bytes_eq p.txn p.txn) ((bytes_eq-Decides p.origin p.origin).1 refl) ((bytes_eq-Decides p.txn p.txn).1 refl)

pub same-eq : (p q : TransactionKey) → same p q ≡ true → p ≡ q
same-eq p q h =
    let parts = and_parts (bytes_eq p.origin q.origin) (bytes_eq p.txn q.txn) h in
    let o : p.origin ≡ q.origin = (bytes_eq-Decides p.origin q.origin).0 parts.0 in
    let t : p.txn ≡ q.txn = (bytes_eq-Decides p.txn q.txn).0 parts.1 in
    λ i. record { origin = o i; txn = t i }

-- ---- what the journal says of a transaction

pub last_of-push : (journal : List BookEntry) (entry : BookEntry) (p : TransactionKey) → last_of p (journal ++ entry ∷ []) ≡ cond (same p (transaction_of entry)) (Some entry) (last_of p journal)
last_of-push journal entry p = ap (find (λ e. same p (transaction_of e))) (reverse-append journal (entry ∷ []))

pub hold_of-here : (journal : List BookEntry) (entry : BookEntry) (p : TransactionKey) → same p (transaction_of entry) ≡ true → hold_of (journal ++ entry ∷ []) p ≡ hold_after (Some entry)
hold_of-here journal entry p h = ap hold_after (last_of-push journal entry p ∙ ap (λ b. cond b (Some entry) (last_of p journal)) h)

pub hold_of-there : (journal : List BookEntry) (entry : BookEntry) (p : TransactionKey) → same p (transaction_of entry) ≡ false → hold_of (journal ++ entry ∷ []) p ≡ hold_of journal p
hold_of-there journal entry p h = ap hold_after (last_of-push journal entry p ∙ ap (λ b. cond b (Some entry) (last_of p journal)) h)

-- ---- what is legal

pub is_legal_after-push : (earlier entries : List BookEntry) (entry : BookEntry) →
    is_legal_after earlier (entries ++ entry ∷ []) ≡ (is_legal_after earlier entries && follows (last_of (transaction_of entry) (earlier ++ entries)) entry)
is_legal_after-push earlier [] entry =
    last (follows (last_of (transaction_of entry) earlier) entry) ∙ ap (λ js. follows (last_of (transaction_of entry) js) entry) (sym (append-nil earlier))
  where
    last : (b : Bool) → (b && true) ≡ b
    last true = refl
    last false = refl
is_legal_after-push earlier (first ∷ entries) entry =
    ap (λ b. follows (last_of (transaction_of first) earlier) first && b) (is_legal_after-push (earlier ++ first ∷ []) entries entry)
    ∙ ap (λ js. follows (last_of (transaction_of first) earlier) first && (is_legal_after (earlier ++ first ∷ []) entries && follows (last_of (transaction_of entry) js) entry)) (append_assoc earlier (first ∷ []) entries)
    ∙ joined (follows (last_of (transaction_of first) earlier) first) (is_legal_after (earlier ++ first ∷ []) entries) (follows (last_of (transaction_of entry) (earlier ++ first ∷ entries)) entry)
  where
    joined : (a b c : Bool) → (a && (b && c)) ≡ (a && b && c)
    joined true b c = refl
    joined false b c = refl

pub is_legal-push : (journal : List BookEntry) (entry : BookEntry) → IsTrue (is_legal journal) → follows (last_of (transaction_of entry) journal) entry ≡ true → IsTrue (is_legal (journal ++ entry ∷ []))
is_legal-push journal entry h f =
    subst IsTrue (sym (is_legal_after-push [] journal entry)) (both (is_legal journal) (follows (last_of (transaction_of entry) journal) entry) h f)
  where
    both : (a b : Bool) → IsTrue a → b ≡ true → IsTrue (a && b)
    both true true h f = refl
    both true false h f = absurd (false≢true f)
    both false b h f = absurd (false≢true h)

-- ---- what is stored

pub stored-push : (journal : List BookEntry) (entry : BookEntry) → stored (journal ++ entry ∷ []) ≡ stored journal ++ filter_map row_of (entry ∷ [])
stored-push journal entry = filter_map-append row_of journal (entry ∷ [])

-- ---- what holds of each entry

all_first : {A : Type 0} (P : A → Type 0) (x : A) (xs : List A) → All P (x ∷ xs) → P x
all_first P x xs all = all 0 x (omega arith)

all_later : {A : Type 0} (P : A → Type 0) (x : A) (xs : List A) → All P (x ∷ xs) → All P xs
all_later P x xs all = λ k d l. all (suc k) d (omega arith)

pub all_one : {A : Type 0} (P : A → Type 0) (x : A) → P x → All P (x ∷ [])
all_one {A = A} P x h = λ k d l. at k d l
  where
    at : (k : ℕ) (d : A) → k < length (x ∷ []) → P (get_or (x ∷ []) k d)
    at zero d l = h
    at (suc k) d l = absurd (omega arith)

-- ---- what holds of each transaction holds of one that is not free

not_free : (o : Option BookEntry) (caller : ℕ) → hold_after o ≡ begun caller → (entry : BookEntry) × (o ≡ Some entry)
not_free None caller h = absurd (let e : free ≡ begun caller = h in cc)
not_free (Some entry) caller h = (entry, refl)

found_in : (P : TransactionKey → Type 0) (p : TransactionKey) (entries : List BookEntry) (entry : BookEntry) → All (λ e. P (transaction_of e)) entries → find (λ e. same p (transaction_of e)) entries ≡ Some entry → P p
found_in P p [] entry all h = absurd (let e : None ≡ Some entry = h in cc)
found_in P p (e ∷ es) entry all h =
    elim (same p (transaction_of e)) as (λ b. same p (transaction_of e) ≡ b → cond b (Some e) (find (λ e. same p (transaction_of e)) es) ≡ Some entry → P p) [
      | true ↦ λ is _. subst P (sym (same-eq p (transaction_of e) is)) (all_first (λ e. P (transaction_of e)) e es all)
      | false ↦ λ _ later. found_in P p es entry (all_later (λ e. P (transaction_of e)) e es all) later
    ] refl h

found_entry : (P : BookEntry → Type 0) (p : TransactionKey) (entries : List BookEntry) (entry : BookEntry) → All P entries → find (λ e. same p (transaction_of e)) entries ≡ Some entry → P entry
found_entry P p [] entry all h = absurd (let e : None ≡ Some entry = h in cc)
found_entry P p (e ∷ es) entry all h =
    elim (same p (transaction_of e)) as (λ b. cond b (Some e) (find (λ e. same p (transaction_of e)) es) ≡ Some entry → P entry) [
      | true ↦ λ is. subst P (some_is e entry is) (all_first P e es all)
      | false ↦ λ later. found_entry P p es entry (all_later P e es all) later
    ] h
  where
    some_is : (x y : BookEntry) → Some x ≡ Some y → x ≡ y
    some_is x y k = cc

All-reverse : (P : BookEntry → Type 0) (entries : List BookEntry) → All P entries → All P (reverse entries)
All-reverse P [] all = all
All-reverse P (e ∷ es) all = subst (All P) (sym (reverse-append (e ∷ []) es)) (All-append P (reverse es) (e ∷ []) (All-reverse P es (all_later P e es all)) (all_one P e (all_first P e es all)))

pub holds_of_begun : (P : TransactionKey → Type 0) (journal : List BookEntry) (p : TransactionKey) (caller : ℕ) → All (λ e. P (transaction_of e)) journal → hold_of journal p ≡ begun caller → P p
holds_of_begun P journal p caller all h =
    let found = not_free (last_of p journal) caller h in
    found_in P p (reverse journal) found.0 (All-reverse (λ e. P (transaction_of e)) journal all) found.1

-- what holds of each entry holds of a transaction's last one
pub found_is : (P : BookEntry → Type 0) (p : TransactionKey) (journal : List BookEntry) (entry : BookEntry) → All P journal → last_of p journal ≡ Some entry → P entry
found_is P p journal entry all h = found_entry P p (reverse journal) entry (All-reverse P journal all) h
