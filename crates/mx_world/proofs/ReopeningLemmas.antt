-- Views that are opened again one after the other, each over the keeper with its number.
use Rattle.std.proofs.Common.{◌≡◌, ◌+◌, ℕ, ◌<◌, ◌≤◌, Bool, true, false, List, [], ◌∷◌, ◌++◌, length, get_or, map, reverse, Option, Some, inl, inr, refl, sym, ap, subst, ◌∙◌, arith}
use Rattle.std.specs.Prelude.{◌⊎◌, All, find, if◌then◌else◌}
use Rattle.std.proofs.lemmas.List.{length_push, get_or_push, get_or_append_left, map_push, reverse-append}
use Rattle.std.proofs.lemmas.Bool.{false≢true}
use Rattle.std.proofs.Math.Nat.{eq-or-lt_of_le}
use Rattle.mx_keeper.specs.Places.{PlaceView}
use Rattle.mx_keeper.specs.declared.rows.BookRow.{BookRow}
use Rattle.mx_book.specs.Transactions.{same}
use Rattle.mx_book.specs.Journal.{transaction_of, IsEnded, free, begun, kept, hold_after, entry_of, reopened, stored, can_reopen}
use Rattle.mx_book.specs.View.{BookView}
use Rattle.mx_book.specs.declared.entries.BookEntry.{BookEntry}
use Rattle.mx_world.specs.Reopening.{AreOver, IsReopenedBook, CannotReopen, CannotAt, CanReopenBook, IsRefusedFor}
use Rattle.mx_world.specs.declared.open_errors.OpenError.{OpenError}
use Rattle.mx_world.specs.declared.open_errors.OpenError.TheVariants.{Memory, Shard, Book}

-- ---- one more

-- each view so far is over the keeper with its number
abbrev pub AreOverFirst : {K V : Type 0} → (K → V → Type 0) → List K → List V → Type 0
AreOverFirst {K = K} {V = V} is keepers views = (n : ℕ) (k : K) (v : V) → n < length views → is (get_or keepers n k) (get_or views n v)

module _ {K V : Type 0} (is : K → V → Type 0) (keepers : List K) (views : List V) where
  pub over-none : length views ≡ 0 → AreOverFirst is keepers views
  over-none none = λ n k v l. absurd (omega arith)

  pub over-more : (keeper : K) (view : V) → AreOverFirst is keepers views → ((d : K) → get_or keepers (length views) d ≡ keeper) → is keeper view → AreOverFirst is keepers (views ++ view ∷ [])
  over-more keeper view each there here = λ n k v l.
      let more : length (views ++ view ∷ []) ≡ length views + 1 = length_push views view in
      elim (eq-or-lt_of_le (let le : n ≤ length views = omega arith in le)) [
        | inl same ↦ subst (λ a. is a (get_or (views ++ view ∷ []) n v)) (sym (ap (λ m. get_or keepers m k) same ∙ there k))
            (subst (λ b. is keeper b) (sym (get_or_push views view v n (sym same))) here)
        | inr lt ↦ subst (λ b. is (get_or keepers n k) b) (sym (get_or_append_left views (view ∷ []) v n lt)) (each n k v lt)
      ]

  pub over-all : length views ≡ length keepers → AreOverFirst is keepers views → AreOver is keepers views
  over-all long each = λ n k v l. each n k v (omega (arith, long, l))

-- ---- books

-- in a journal of rows each transaction is free or has its reply
not-begun : (caller : ℕ) (b : Bool) (row : BookRow) (later : Option BookEntry) → ¬ (hold_after later ≡ begun caller) → ¬ (hold_after (if b then Some (entry_of row) else later) ≡ begun caller)
not-begun caller true row later no-later = λ is. let e : kept row.reply ≡ begun caller = is in cc
not-begun caller false row later no-later = no-later

found-kept : (p : BookEntry → Bool) (rows : List BookRow) (caller : ℕ) → ¬ (hold_after (find p (map entry_of rows)) ≡ begun caller)
found-kept p [] caller = λ is. let e : free ≡ begun caller = is in cc
found-kept p (row ∷ rows) caller = not-begun caller (p (entry_of row)) row (find p (map entry_of rows)) (found-kept p rows caller)

reverse-map : {A B : Type 0} (f : A → B) (xs : List A) → reverse (map f xs) ≡ map f (reverse xs)
reverse-map f [] = refl
reverse-map f (x ∷ xs) = reverse-append (f x ∷ []) (map f xs) ∙ ap (λ l. l ++ f x ∷ []) (reverse-map f xs) ∙ sym (map_push f (reverse xs) x) ∙ sym (ap (map f) (reverse-append (x ∷ []) xs))

pub reopened-ended : (rows : List BookRow) → IsEnded (reopened rows)
reopened-ended rows key caller = λ is.
    let is-key : BookEntry → Bool = λ entry. same key (transaction_of entry) in
    found-kept is-key (reverse rows) caller (ap (λ l. hold_after (find is-key l)) (sym (reverse-map entry_of rows)) ∙ is)

pub all-ended : {L : Type 0} (is_ready honest : L → Type 0) (read : L → Option (List BookRow)) (may_leave : L → Option (List BookRow) → Type 0) (keepers : List L) (books : List (BookView L))
    → 1 ≤ length keepers → length books ≡ length keepers → AreOver (IsReopenedBook is_ready honest read may_leave) keepers books → All (λ book. IsEnded book.journal) books
all-ended is_ready honest read may_leave [] books some long over = absurd (let e : ⊥ = omega (arith, some) in e)
all-ended is_ready honest read may_leave (k ∷ ks) books some long over = λ n d l.
    subst IsEnded (sym (over n k d (omega (arith, long, l))).journal) (reopened-ended (stored (get_or books n d).journal))

-- ---- refusals

-- a keeper whose book can't be opened
pub book-closed : {L : Type 0} (is_ready honest : L → Type 0) (read : L → Option (List BookRow)) (keeper : L) (place : PlaceView)
    → (is_ready keeper → honest keeper → (rows : List BookRow) → read keeper ≡ Some rows → can_reopen place rows ≡ false) → CannotReopen (CanReopenBook place) is_ready honest read keeper
book-closed is_ready honest read keeper place why = λ ready honestly rows is can. false≢true (sym (why ready honestly rows is) ∙ can)

-- why a server was not opened, by what one of its parts told
module _ (shard book : ℕ → Type 0) where
  pub refused-shard : (error : OpenError) → (error ≡ Memory) ⊎ ((n : ℕ) × (error ≡ Shard n) × shard n) → IsRefusedFor shard book error
  refused-shard error (inl is) = subst (IsRefusedFor shard book) (sym is) tt
  refused-shard error (inr (n, is, why)) = subst (IsRefusedFor shard book) (sym is) why

  pub refused-book : (error : OpenError) → (error ≡ Memory) ⊎ ((n : ℕ) × (error ≡ Book n) × book n) → IsRefusedFor shard book error
  refused-book error (inl is) = subst (IsRefusedFor shard book) (sym is) tt
  refused-book error (inr (n, is, why)) = subst (IsRefusedFor shard book) (sym is) why

pub refused-as : (shard shard' book book' : ℕ → Type 0) → ((n : ℕ) → shard n → shard' n) → ((n : ℕ) → book n → book' n)
    → (error : OpenError) → IsRefusedFor shard book error → IsRefusedFor shard' book' error
refused-as shard shard' book book' s b Memory why = tt
refused-as shard shard' book book' s b (Shard n) why = s n why
refused-as shard shard' book book' s b (Book n) why = b n why

-- one part was not opened, over the keeper with this number
pub refused-part : {K : Type 0} (cannot : PlaceView → K → Type 0) (refusal : ℕ → OpenError) (keepers : List K) (n : ℕ) (keeper : K) (place : PlaceView) (error : OpenError)
    → n < length keepers → ((d : K) → get_or keepers n d ≡ keeper) → place ≡ record { number = n; count = length keepers }
    → (error ≡ Memory) ⊎ ((error ≡ refusal place.number) × cannot place keeper)
    → (error ≡ Memory) ⊎ ((m : ℕ) × (error ≡ refusal m) × CannotAt cannot keepers m)
refused-part cannot refusal keepers n keeper place error l is at (inl none) = inl none
refused-part {K = K} cannot refusal keepers n keeper place error l is at (inr (names, why)) = inr (
  n,
  names ∙ ap (λ (p : PlaceView). refusal p.number) at,
  (l, λ d. subst (λ (k : K). cannot (record { number = n; count = length keepers }) k) (sym (is d)) (subst (λ (p : PlaceView). cannot p keeper) at why)),
)
