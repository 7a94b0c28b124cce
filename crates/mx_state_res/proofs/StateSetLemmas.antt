-- Sets of states as numbers, and rows with such sets.
use Rattle.std.proofs.Common.{◌≡◌, ℕ, zero, suc, ◌+◌, ◌-◌, ◌/◌, ◌%◌, ◌^◌, ◌==◌, ◌≤◌, ◌<◌, max, set, Bool, true, false, not, cond, ◌&&◌, ◌||◌, ◌⊎◌, inl, inr, List, [], length, get_or, bit_or, replicate, sum_by, ◌*◌, refl, sym, ap, subst, ◌∙◌, arith, eqb-true}
use Rattle.std.proofs.lemmas.Bool.{eqb-false}
use Rattle.std.proofs.lemmas.List.{get_or_past, get_or-set_same, get_or-set_other}
use Rattle.std.proofs.lemmas.List.Sums.{sum_by-set, sum_by-cons, sum_by-le, get_or-le-sum_by}
use Rattle.std.proofs.Math.Nat.{pow-suc}
use Rattle.std.proofs.lemmas.Nat.{or_lt, pow_pos}
use Rattle.std.proofs.lemmas.Nat.Bits.{bit_at_or, bit_at-zero, bit_at_ones, bit_at-pow_same, bit_at-pow_other, bit_at_lowest, bit_at-suc, bit_at-lt}
use Rattle.std.specs.Int.{bit_at}
use Rattle.mx_state_res.specs.RowSets.{has_state, is_reached, is_partial, weight, AreCounted}
use Rattle.mx_state_res.specs.Masks.{IsApart}
use Rattle.mx_state_res.proofs.TestLemmas.{and-cases, not-false, not-true, and-first, and-second, or-false}

-- ---- members of sets

either-bit : (x y : ℕ) → x < 2 → y < 2 → (max x y == 1) ≡ ((x == 1) || (y == 1))
either-bit zero zero k l = refl
either-bit zero (suc zero) k l = refl
either-bit (suc zero) zero k l = refl
either-bit (suc zero) (suc zero) k l = refl
either-bit (suc (suc x)) y k l = absurd (omega arith)
either-bit x (suc (suc y)) k l = absurd (omega arith)

pub has-or : (a b i : ℕ) → has_state (bit_or a b) i ≡ (has_state a i || has_state b i)
has-or a b i = ap (λ n. n == 1) (bit_at_or a b i) ∙ either-bit (bit_at a i) (bit_at b i) (bit_at-lt a i) (bit_at-lt b i)

pub has-none : (i : ℕ) → has_state 0 i ≡ false
has-none i = ap (λ n. n == 1) (bit_at-zero i)

pub has-all : (n i : ℕ) → i < n → has_state (2 ^ n - 1) i ≡ true
has-all n i l = ap (λ d. d == 1) (bit_at_ones n i l)

pub has-only : (k i : ℕ) → has_state (2 ^ k) i ≡ (k == i)
has-only k i = by (k == i) refl
  where
    by : (b : Bool) → (k == i) ≡ b → has_state (2 ^ k) i ≡ b
    by true e = ap (λ j. has_state (2 ^ k) j) (sym (eqb-true k i e)) ∙ ap (λ d. d == 1) (bit_at-pow_same k)
    by false e = let apart = eqb-false k i e in ap (λ d. d == 1) (bit_at-pow_other k i (λ same. apart (sym same)))

half-lt : (m w : ℕ) → m < 2 ^ suc w → m / 2 < 2 ^ w
half-lt m w l = omega (arith, pow-suc 2 w)

-- from a state in the half of a set, one in the set
some-more : (w m : ℕ) (b : Bool) → (m % 2 == 1) ≡ b → (m ≡ 0 → ⊥) → ((m / 2 ≡ 0 → ⊥) → (i : ℕ) × (i < w) × (has_state (m / 2) i ≡ true)) → (i : ℕ) × (i < suc w) × (has_state m i ≡ true)
some-more w m true e some later = (0, omega arith, ap (λ d. d == 1) (bit_at_lowest m) ∙ e)
some-more w m false e some later =
    let odd = eqb-false (m % 2) 1 e in
    let r = later (λ z. some (omega arith)) in
    let inside : r.0 < w = r.1 in
    (suc r.0, omega arith, ap (λ d. d == 1) (bit_at-suc m r.0) ∙ r.2)

pub some-state : (w m : ℕ) → m < 2 ^ w → (m ≡ 0 → ⊥) → (i : ℕ) × (i < w) × (has_state m i ≡ true)
some-state zero m l some = absurd (some (omega arith))
some-state (suc w) m l some = some-more w m (m % 2 == 1) refl some (λ h. some-state w (m / 2) (half-lt m w l) h)

lacking-more : (w m : ℕ) (b : Bool) → (m % 2 == 1) ≡ b → (m ≡ 2 ^ suc w - 1 → ⊥) → ((m / 2 ≡ 2 ^ w - 1 → ⊥) → (i : ℕ) × (i < w) × (has_state (m / 2) i ≡ false)) → (i : ℕ) × (i < suc w) × (has_state m i ≡ false)
lacking-more w m false e less later = (0, omega arith, ap (λ d. d == 1) (bit_at_lowest m) ∙ e)
lacking-more w m true e less later =
    let odd : m % 2 ≡ 1 = eqb-true (m % 2) 1 e in
    let r = later (λ z. less (let full : m / 2 ≡ 2 ^ w - 1 = z in omega (arith, pow-suc 2 w, pow_pos w))) in
    let inside : r.0 < w = r.1 in
    (suc r.0, omega arith, ap (λ d. d == 1) (bit_at-suc m r.0) ∙ r.2)

pub lacking-state : (w m : ℕ) → m < 2 ^ w → (m ≡ 2 ^ w - 1 → ⊥) → (i : ℕ) × (i < w) × (has_state m i ≡ false)
lacking-state zero m l less = absurd (less (omega arith))
lacking-state (suc w) m l less = lacking-more w m (m % 2 == 1) refl less (λ h. lacking-state w (m / 2) (half-lt m w l) h)

-- ---- a set that has a state and lacks one

module _ (states : ℕ) (reach : ℕ → ℕ → Bool) (t m : ℕ) (fits : m < 2 ^ states)
    (sound : (i : ℕ) → i < states → has_state m i ≡ true → reach i t ≡ true) (exact : (i : ℕ) → i < states → reach i t ≡ true → has_state m i ≡ true) where
  pub partial-apart : is_partial (2 ^ states - 1) m ≡ true → IsApart states reach t
  partial-apart e =
      let some = eqb-false m 0 (not-true (m == 0) (and-first (not (m == 0)) _ e)) in
      let less = eqb-false m (2 ^ states - 1) (not-true (m == 2 ^ states - 1) (and-second (not (m == 0)) _ e)) in
      let a = some-state states m fits some in
      let b = lacking-state states m fits less in
      record { in_some = (a.0, a.1, sound a.0 a.1 a.2); not_in_all = (b.0, b.1, lacks b.0 b.1 b.2) }
    where
      lacks : (i : ℕ) → i < states → has_state m i ≡ false → reach i t ≡ false
      lacks i l e = by (reach i t) refl
        where
          by : (b : Bool) → reach i t ≡ b → reach i t ≡ false
          by true f = absurd (cc (sym e ∙ exact i l f))
          by false f = f

  pub settled-not_apart : is_partial (2 ^ states - 1) m ≡ false → IsApart states reach t → ⊥
  settled-not_apart e a = by (and-cases (not (m == 0)) _ e)
    where
      by : (not (m == 0) ≡ false) ⊎ (not (m == 2 ^ states - 1) ≡ false) → ⊥
      by (inl f) =
          let none : m ≡ 0 = eqb-true m 0 (not-false (m == 0) f) in
          cc (sym (has-none a.in_some.0) ∙ ap (λ n. has_state n a.in_some.0) (sym none) ∙ exact a.in_some.0 a.in_some.1 a.in_some.2)
      by (inr f) =
          let full : m ≡ 2 ^ states - 1 = eqb-true m _ (not-false (m == 2 ^ states - 1) f) in
          cc (sym a.not_in_all.2 ∙ sound a.not_in_all.0 a.not_in_all.1 (ap (λ n. has_state n a.not_in_all.0) full ∙ has-all states a.not_in_all.0 a.not_in_all.1))

-- a set that a state is in, and that is not partial, has every state
pub settled-has : (states m i j : ℕ) → is_partial (2 ^ states - 1) m ≡ false → j < states → has_state m i ≡ true → has_state m j ≡ true
settled-has states m i j e l h = by (and-cases (not (m == 0)) _ e)
  where
    by : (not (m == 0) ≡ false) ⊎ (not (m == 2 ^ states - 1) ≡ false) → has_state m j ≡ true
    by (inl f) = absurd (let none : m ≡ 0 = eqb-true m 0 (not-false (m == 0) f) in cc (sym (has-none i) ∙ ap (λ n. has_state n i) (sym none) ∙ h))
    by (inr f) = let full : m ≡ 2 ^ states - 1 = eqb-true m _ (not-false (m == 2 ^ states - 1) f) in ap (λ n. has_state n j) full ∙ has-all states j l

-- ---- rows with sets

-- at first no state reaches a row
pub none-counted : (states n : ℕ) (sets : List ℕ) → ◌≡◌ {A = List ℕ} sets (replicate n 0) → AreCounted states (2 ^ states - 1) sets 0
none-counted states n sets is =
    record {
      every = refl;
      fit = λ p. subst (λ m. m < 2 ^ states) (sym (ap (λ xs. get_or xs p 0) is ∙ zeros n p)) (pow_pos states);
      counted = sym (ap (sum_by (weight (2 ^ states - 1))) is ∙ weightless n);
    }
  where
    zeros : (n p : ℕ) → ◌≡◌ {A = ℕ} (get_or (replicate n 0) p 0) 0
    zeros zero p = get_or_past {X = ℕ} [] p 0 (omega arith)
    zeros (suc n) zero = refl
    zeros (suc n) (suc p) = zeros n p

    weightless : (n : ℕ) → ◌≡◌ {A = ℕ} (sum_by (weight (2 ^ states - 1)) (replicate n 0)) 0
    weightless zero = refl
    weightless (suc n) = sum_by-cons (weight (2 ^ states - 1)) 0 (replicate n 0) ∙ (let rest = weightless n in let none : weight (2 ^ states - 1) 0 ≡ 0 = refl in omega arith)

module _ (states all : ℕ) (sets : List ℕ) (unsettled event m : ℕ) (kept : AreCounted states all sets unsettled) (fits : m < 2 ^ states) (row : event < length sets) where
  abbrev before : ℕ
  before = get_or sets event 0

  abbrev after : ℕ
  after = bit_or before m

  -- the set has the states already
  pub same-reached : after ≡ before → (p i : ℕ) → is_reached sets p i ≡ (is_reached sets p i || ((event == p) && has_state m i))
  same-reached same p i = by (event == p) refl
    where
      by : (b : Bool) → (event == p) ≡ b → is_reached sets p i ≡ (is_reached sets p i || (b && has_state m i))
      by true e = ap (λ q. is_reached sets q i) (sym here) ∙ ap (λ n. has_state n i) (sym same) ∙ has-or before m i ∙ ap (λ q. is_reached sets q i || has_state m i) here
        where
          here : event ≡ p
          here = eqb-true event p e
      by false e = sym (or-false (is_reached sets p i) false refl)

  pub set-reached : (p i : ℕ) → is_reached (set sets event after) p i ≡ (is_reached sets p i || ((event == p) && has_state m i))
  set-reached p i = by (event == p) refl
    where
      by : (b : Bool) → (event == p) ≡ b → is_reached (set sets event after) p i ≡ (is_reached sets p i || (b && has_state m i))
      by true e = ap (λ q. is_reached (set sets event after) q i) (sym here) ∙ ap (λ n. has_state n i) (get_or-set_same sets event after 0 row) ∙ has-or before m i ∙ ap (λ q. is_reached sets q i || has_state m i) here
        where
          here : event ≡ p
          here = eqb-true event p e
      by false e = ap (λ n. has_state n i) (get_or-set_other sets event p after 0 (λ q. eqb-false event p e (sym q))) ∙ sym (or-false (is_reached sets p i) false refl)

  pub set-counted : AreCounted states all (set sets event after) (unsettled - weight all before + weight all after)
  set-counted =
      record {
        every = kept.every;
        fit = λ p. fit p (event == p) refl;
        counted =
            let u : unsettled ≡ sum_by (weight all) sets = kept.counted in
            omega (arith, sum_by-set (weight all) sets event after 0 row, get_or-le-sum_by (weight all) sets event 0 row);
      }
    where
      fit : (p : ℕ) (b : Bool) → (event == p) ≡ b → get_or (set sets event after) p 0 < 2 ^ states
      fit p true e =
          subst (λ q. get_or (set sets event after) q 0 < 2 ^ states) (eqb-true event p e)
          (subst (λ n. n < 2 ^ states) (sym (get_or-set_same sets event after 0 row)) (or_lt states before m (kept.fit event) fits))
      fit p false e = subst (λ n. n < 2 ^ states) (sym (get_or-set_other sets event p after 0 (λ q. eqb-false event p e (sym q)))) (kept.fit p)

pub weight-le : (all m : ℕ) → weight all m ≤ 1
weight-le all m = light (is_partial all m)
  where
    light : (b : Bool) → cond b 1 0 ≤ 1
    light true = omega arith
    light false = omega arith

-- no more are unsettled than there are rows
pub counted-le : (states all : ℕ) (sets : List ℕ) (unsettled : ℕ) → AreCounted states all sets unsettled → unsettled ≤ length sets
counted-le states all sets unsettled kept =
    let u : unsettled ≡ sum_by (weight all) sets = kept.counted in
    let l : sum_by (weight all) sets ≤ length sets * 1 = sum_by-le (weight all) 1 sets (λ i d l. weight-le all (get_or sets i d)) in
    omega arith
