-- The events of a record that came before one of them.
use Rattle.std.proofs.Common.{◌≡◌, ◌<◌, ◌≤◌, ◌+◌, ◌++◌, ◌⊎◌, inl, inr, ℕ, zero, suc, Bool, true, false, cond, not, List, [], ◌∷◌, Option, Some, None, length, map, take, refl, sym, ap, subst, ◌∙◌, arith}
use Rattle.std.proofs.lemmas.Bool.{cases_lt, lt-ltb}
use Rattle.std.proofs.lemmas.Grind.{common_steps}
use Rattle.std.proofs.lemmas.List.{get_or-take, length-map, length-take-le, take-map, take-take}
use Rattle.std.specs.List.{position_or_len, prefix_len}
use Rattle.std.specs.Prelude.{bytes_eq, nat_lt, position}
use Rattle.mx_graph.specs.Record.{Row, no_row, place_of, row}
use Rattle.mx_graph.specs.StateMap.{State}
use Rattle.mx_receipt.specs.Receipt.{Kept, before_event, is_rejected, kept_at, rows_of, state_before, state_before_next, states_after, version_in, with_kept}

-- ---- the first that passes a test, among the first ones

prefix-low : {A : Type 0} (p : A → Bool) (xs : List A) (n : ℕ) → prefix_len p xs < n → prefix_len p (take n xs) ≡ prefix_len p xs
prefix-low p [] zero l = absurd (omega arith)
prefix-low p [] (suc n) l = refl
prefix-low p (x ∷ xs) zero l = absurd (omega arith)
prefix-low p (x ∷ xs) (suc n) l =
    elim (p x) as (λ b. cond b (1 + prefix_len p xs) 0 < suc n → cond b (1 + prefix_len p (take n xs)) 0 ≡ cond b (1 + prefix_len p xs) 0) [
      | true ↦ λ m. ap (λ k. 1 + k) (prefix-low p xs n (omega arith))
      | false ↦ λ m. refl
    ] l

prefix-high : {A : Type 0} (p : A → Bool) (xs : List A) (n : ℕ) → n ≤ prefix_len p xs → prefix_len p (take n xs) ≡ n
prefix-high p [] zero l = refl
prefix-high p [] (suc n) l = absurd (omega arith)
prefix-high p (x ∷ xs) zero l = refl
prefix-high p (x ∷ xs) (suc n) l =
    elim (p x) as (λ b. suc n ≤ cond b (1 + prefix_len p xs) 0 → cond b (1 + prefix_len p (take n xs)) 0 ≡ suc n) [
      | true ↦ λ m. let e : prefix_len p (take n xs) ≡ n = prefix-high p xs n (omega arith) in omega arith
      | false ↦ λ m. absurd (omega arith)
    ] l

first-there : {A : Type 0} (test : A → Bool) (xs : List A) (n p : ℕ) → n ≤ length xs → position test xs ≡ Some p → p < n → position test (take n xs) ≡ Some p
first-there test xs n p fits e l =
    let at : position_or_len test xs ≡ p = grind (arith, common_steps) in
    let same : position_or_len test (take n xs) ≡ p = prefix-low (λ x. not (test x)) xs n (omega arith) ∙ at in
    let count : length (take n xs) ≡ n = length-take-le n xs fits in
    (λ i. cond (nat_lt (same i) (count i)) (Some (same i)) None) ∙ ap (λ b. cond b (Some p) None) (lt-ltb p n l)

first-absent : {A : Type 0} (test : A → Bool) (xs : List A) (n : ℕ) → n ≤ length xs → ((p : ℕ) → position test xs ≡ Some p → n ≤ p) → position test (take n xs) ≡ None
first-absent test xs n fits h = by (cases_lt (position_or_len test xs) n)
  where
    count : length (take n xs) ≡ n
    count = length-take-le n xs fits

    by : (position_or_len test xs < n) ⊎ (n ≤ position_or_len test xs) → position test (take n xs) ≡ None
    by (inl l) =
        let low : nat_lt (position_or_len test xs) (length xs) ≡ true = lt-ltb (position_or_len test xs) (length xs) (omega arith) in
        let high : n ≤ position_or_len test xs = h (position_or_len test xs) (ap (λ b. cond b (Some (position_or_len test xs)) None) low) in
        absurd (omega arith)
    by (inr l) =
        let same : position_or_len test (take n xs) ≡ n = prefix-high (λ x. not (test x)) xs n l in
        let high : nat_lt n n ≡ false = grind (arith, common_steps) in
        (λ i. cond (nat_lt (same i) (count i)) (Some (same i)) None) ∙ ap (λ b. cond b (Some n) None) high

-- ---- the rows of the first events

first-rows : (kept : List Kept) (n : ℕ) → rows_of (take n kept) ≡ take n (rows_of kept)
first-rows kept n = sym (take-map (λ (k : Kept). record { id = k.id; event = k.event; rejected = is_rejected k.verdict }) n kept)

rows-fit : (kept : List Kept) (n : ℕ) → n < length kept → n ≤ length (rows_of kept)
rows-fit kept n fits = let e : length (rows_of kept) ≡ length kept = length-map kept _ in omega arith

module _ (kept : List Kept) (n : ℕ) (fits : n < length kept) where
  pub count-earlier : n ≡ length (take n kept)
  count-earlier = sym (length-take-le n kept (omega arith))

  below-count : (p : ℕ) → p < length (take n kept) → p < n
  below-count p l = subst (λ m. p < m) (sym count-earlier) l

  pub within-earlier : (p : ℕ) → p < length (take n kept) → p < length kept
  within-earlier p l = let m : p < n = below-count p l in omega arith

  pub row-earlier : (p : ℕ) → p < length (take n kept) → row (rows_of kept) p ≡ row (rows_of (take n kept)) p
  row-earlier p l = sym (ap (λ rows. row rows p) (first-rows kept n) ∙ get_or-take n (rows_of kept) p no_row (below-count p l))

  pub place-there : (id : List ℕ) (p : ℕ) → place_of (rows_of kept) id ≡ Some p → p < n → Some p ≡ place_of (rows_of (take n kept)) id
  place-there id p e l =
      sym (ap (λ rows. place_of rows id) (first-rows kept n) ∙ first-there (λ (r : Row). bytes_eq r.id id) (rows_of kept) n p (rows-fit kept n fits) e l)

  pub place-absent : (id : List ℕ) → ((p : ℕ) → place_of (rows_of kept) id ≡ Some p → n ≤ p) → None ≡ place_of (rows_of (take n kept)) id
  place-absent id h =
      sym (ap (λ rows. place_of rows id) (first-rows kept n) ∙ first-absent (λ (r : Row). bytes_eq r.id id) (rows_of kept) n (rows-fit kept n fits) h)

-- an event of a record as it is kept
pub event-kept : (kept : List Kept) (p : ℕ) → (row (rows_of kept) p).event ≡ (kept_at kept p).event
event-kept [] p = refl
event-kept (k ∷ kept) zero = refl
event-kept (k ∷ kept) (suc p) = event-kept kept p

pub version-earlier : (kept : List Kept) (n : ℕ) → 0 < n → version_in (rows_of kept) ≡ version_in (rows_of (take n kept))
version-earlier kept zero l = absurd (omega arith)
version-earlier [] (suc n) l = refl
version-earlier (k ∷ kept) (suc n) l = refl

-- ---- the state before an event, by the events that came before it

module _ (kept : List Kept) (p : ℕ) where
  states-first : (n : ℕ) → n ≤ p → states_after (take p kept) n ≡ states_after kept n
  states-first zero l = refl
  states-first (suc n) l =
      let before : states_after (take p kept) n ≡ states_after kept n = states-first n (omega arith) in
      let same : kept_at (take p kept) n ≡ kept_at kept n = get_or-take p kept n _ (omega arith) in
      let rows : take n (take p kept) ≡ take n kept = take-take n p kept (omega arith) in
      ap (λ (ks : List Kept). states_after (take p kept) n ++ with_kept (before_event (rows_of ks) (states_after (take p kept) n) (kept_at (take p kept) n).event) (kept_at (take p kept) n) n ∷ []) rows
      ∙ ap (λ (j : Kept). states_after (take p kept) n ++ with_kept (before_event (rows_of (take n kept)) (states_after (take p kept) n) j.event) j n ∷ []) same
      ∙ ap (λ (ss : List State). ss ++ with_kept (before_event (rows_of (take n kept)) ss (kept_at kept n).event) (kept_at kept n) n ∷ []) before

  pub before-earlier : p < length kept → state_before kept p ≡ state_before_next (take p kept) (kept_at kept p).event
  unfolding state_before state_before_next
  before-earlier fits =
      ap (λ (ss : List State). before_event (rows_of (take p kept)) ss (kept_at kept p).event)
      (sym (ap (states_after (take p kept)) (length-take-le p kept (omega arith)) ∙ states-first p (omega arith)))
