-- The places that are left, and the first of them that passes a test.
use Rattle.std.proofs.Common.{◌≡◌, ℕ, zero, suc, length, cond, ◌+◌, ◌<◌, Bool, true, false, List, [], ◌∷◌, ◌||◌, ◌⊎◌, inl, inr, eq-eqb, eqb-true, Option, Some, None, refl, sym, ap, ◌∙◌, subst, arith, set, take, slice_index, replicate, ◌++◌, ◌==◌, slice_index_or}
use Rattle.std.specs.Prelude.{Vec}
use Rattle.std.specs.declared.alloc.Global.{Global}
use Rattle.std.proofs.lemmas.List.Folds.{list_any-append, list_any_at, list_any_more}
use Rattle.std.specs.Prelude.{if◌then◌else◌, option_map}
use Rattle.std.specs.List.{list_any, range_with_len}
use Rattle.mx_export.specs.Arrangement.{taken}
use Rattle.mx_export.specs.Arranging.{is_in, is_left, lefts, listed}

pub not_true : (b : Bool) → (b ≡ true → ⊥) → b ≡ false
not_true true h = absurd (h refl)
not_true false h = refl

pub not_false : (b : Bool) → (b ≡ false → ⊥) → b ≡ true
not_false true h = refl
not_false false h = absurd (h refl)

pub taken-none : {A : Type 0} (test : A → Bool) (xs : List A) → list_any test xs ≡ false → taken test xs ≡ None
taken-none test [] e = refl
taken-none test (x ∷ xs) e = by (test x) refl (taken-none test xs)
  where
    by : (b : Bool) → test x ≡ b → (list_any test xs ≡ false → taken test xs ≡ None) → taken test (x ∷ xs) ≡ None
    by true k later = absurd (cc (sym (ap (λ t. t || list_any test xs) k) ∙ e))
    by false k later = rw k (ap (option_map (λ r. (r.0, x ∷ r.1))) (later (sym (ap (λ t. t || list_any test xs) k) ∙ e)))

module _ (f : ℕ → Bool) where
  any-lefts : (k : ℕ) (ws : List Bool) (p : ℕ) → is_left ws p ≡ true → f (k + p) ≡ true → list_any f (lefts k ws) ≡ true
  any-lefts k [] p left e = absurd (cc left)
  any-lefts k (true ∷ ws) zero left e = absurd (cc left)
  any-lefts k (true ∷ ws) (suc p) left e = any-lefts (suc k) ws p left (subst (λ i. f i ≡ true) (omega arith) e)
  any-lefts k (false ∷ ws) zero left e =
      let at : f k ≡ true = subst (λ i. f i ≡ true) (omega arith) e in
      rw at refl
  any-lefts k (false ∷ ws) (suc p) left e =
      let later = any-lefts (suc k) ws p left (subst (λ i. f i ≡ true) (omega arith) e) in
      rw later (or-true (f k))
    where
      or-true : (b : Bool) → (b || true) ≡ true
      or-true true = refl
      or-true false = refl

  no-lefts : (k : ℕ) (ws : List Bool) → ((p : ℕ) → is_left ws p ≡ true → f (k + p) ≡ false) → list_any f (lefts k ws) ≡ false
  no-lefts k [] h = refl
  no-lefts k (true ∷ ws) h = no-lefts (suc k) ws (λ p left. subst (λ i. f i ≡ false) (omega arith) (h (suc p) left))
  no-lefts k (false ∷ ws) h =
      let at : f k ≡ false = subst (λ i. f i ≡ false) (omega arith) (h zero refl) in
      rw at (no-lefts (suc k) ws (λ p left. subst (λ i. f i ≡ false) (omega arith) (h (suc p) left)))

  taken-lefts : (k : ℕ) (ws : List Bool) (p : ℕ) → is_left ws p ≡ true → f (k + p) ≡ true
      → ((q : ℕ) → q < p → is_left ws q ≡ true → f (k + q) ≡ false)
      → taken f (lefts k ws) ≡ Some (k + p, lefts k (set ws p true))
  taken-lefts k [] p left e h = absurd (cc left)
  taken-lefts k (true ∷ ws) zero left e h = absurd (cc left)
  taken-lefts k (true ∷ ws) (suc p) left e h =
      let i : k + suc p ≡ suc k + p = omega arith in
      taken-lefts (suc k) ws p left (subst (λ i. f i ≡ true) i e) (λ q l m. subst (λ i. f i ≡ false) (omega arith) (h (suc q) (omega arith) m))
      ∙ ap (λ j. Some (j, lefts (suc k) (set ws p true))) (sym i)
  taken-lefts k (false ∷ ws) zero left e h =
      let i : k + zero ≡ k = omega arith in
      let at : f k ≡ true = subst (λ i. f i ≡ true) i e in
      rw at (ap (λ j. Some (j, lefts (suc k) ws)) (sym i))
  taken-lefts k (false ∷ ws) (suc p) left e h =
      let i : k + suc p ≡ suc k + p = omega arith in
      let at : f k ≡ false = subst (λ i. f i ≡ false) (omega arith) (h zero (omega arith) refl) in
      let later = taken-lefts (suc k) ws p left (subst (λ i. f i ≡ true) i e) (λ q l m. subst (λ i. f i ≡ false) (omega arith) (h (suc q) (omega arith) m)) in
      rw at (ap (option_map (λ r. (r.0, k ∷ r.1))) later ∙ ap (λ j. Some (j, k ∷ lefts (suc k) (set ws p true))) (sym i))

  pub any-left : (ws : List Bool) (p : ℕ) → is_left ws p ≡ true → f p ≡ true → list_any f (lefts 0 ws) ≡ true
  any-left ws p left e = any-lefts 0 ws p left (subst (λ i. f i ≡ true) (omega arith) e)

  pub no-left : (ws : List Bool) → ((p : ℕ) → is_left ws p ≡ true → f p ≡ false) → list_any f (lefts 0 ws) ≡ false
  no-left ws h = no-lefts 0 ws (λ p left. subst (λ i. f i ≡ false) (omega arith) (h p left))

  pub taken-left : (ws : List Bool) (p : ℕ) → is_left ws p ≡ true → f p ≡ true
      → ((q : ℕ) → q < p → is_left ws q ≡ true → f q ≡ false) → taken f (lefts 0 ws) ≡ Some (p, lefts 0 (set ws p true))
  taken-left ws p left e h =
      let i : 0 + p ≡ p = omega arith in
      taken-lefts 0 ws p left (subst (λ i. f i ≡ true) (sym i) e) (λ q l m. subst (λ i. f i ≡ false) (omega arith) (h q l m))
      ∙ ap (λ j. Some (j, lefts 0 (set ws p true))) i

-- where none is written, all are left
pub lefts-replicate : (k n : ℕ) → lefts k (replicate n false) ≡ range_with_len k n
lefts-replicate k zero = refl
lefts-replicate k (suc n) =
    let i : suc k ≡ k + 1 = omega arith in
    ap (λ xs. k ∷ xs) (lefts-replicate (suc k) n ∙ ap (λ j. range_with_len j n) i)

pub left-set : (ws : List Bool) (p q : ℕ) → is_left (set ws p true) q ≡ true → is_left ws q ≡ true
left-set [] p q e = e
left-set (w ∷ ws) zero zero e = absurd (cc e)
left-set (w ∷ ws) zero (suc q) e = e
left-set (w ∷ ws) (suc p) zero e = e
left-set (w ∷ ws) (suc p) (suc q) e = left-set ws p q e

pub left-set-same : (ws : List Bool) (p : ℕ) → is_left ws p ≡ true → is_left (set ws p true) p ≡ false
left-set-same [] p e = absurd (cc e)
left-set-same (w ∷ ws) zero e = refl
left-set-same (w ∷ ws) (suc p) e = left-set-same ws p e

pub left-set-other : (ws : List Bool) (p q : ℕ) → (q ≡ p → ⊥) → is_left ws q ≡ true → is_left (set ws p true) q ≡ true
left-set-other [] p q n e = e
left-set-other (w ∷ ws) zero zero n e = absurd (n refl)
left-set-other (w ∷ ws) zero (suc q) n e = e
left-set-other (w ∷ ws) (suc p) zero n e = e
left-set-other (w ∷ ws) (suc p) (suc q) n e = left-set-other ws p q (λ k. n (ap suc k)) e

pub left-within : (ws : List Bool) (p : ℕ) → is_left ws p ≡ true → p < length ws
left-within [] p e = absurd (cc e)
left-within (w ∷ ws) zero e = omega arith
left-within (w ∷ ws) (suc p) e =
    let l = left-within ws p e in
    omega arith

-- ---- lists of places

abbrev Lists : Type 0
Lists = List (Vec ℕ Global)

pub listed-past : (lists : Lists) (v : Vec ℕ Global) (u : ℕ) → v.items ≡ [] → ((u : ℕ) → listed lists u ≡ []) → listed (lists ++ v ∷ []) u ≡ []
listed-past [] v zero e h = e
listed-past [] v (suc u) e h = refl
listed-past (w ∷ ws) v zero e h = h 0
listed-past (w ∷ ws) v (suc u) e h = listed-past ws v u e (λ i. h (suc i))

pub listed-set_same : (lists : Lists) (i : ℕ) (v : Vec ℕ Global) → i < length lists → listed (set lists i v) i ≡ v.items
listed-set_same [] i v h = absurd (omega (arith, h))
listed-set_same (w ∷ ws) zero v h = refl
listed-set_same (w ∷ ws) (suc i) v h = let l : i < length ws = omega (arith, h) in listed-set_same ws i v l

pub listed-set_other : (lists : Lists) (i u : ℕ) (v : Vec ℕ Global) → (i ≡ u → ⊥) → listed (set lists i v) u ≡ listed lists u
listed-set_other [] i u v n = refl
listed-set_other (w ∷ ws) zero zero v n = absurd (n refl)
listed-set_other (w ∷ ws) zero (suc u) v n = refl
listed-set_other (w ∷ ws) (suc i) zero v n = refl
listed-set_other (w ∷ ws) (suc i) (suc u) v n = listed-set_other ws i u v (λ e. n (ap suc e))

pub listed-at : (lists : Lists) (i : ℕ) (d : Vec ℕ Global) → i < length lists → d ≡ slice_index_or lists i d → listed lists i ≡ d.items
listed-at [] i d h e = absurd (omega (arith, h))
listed-at (w ∷ ws) zero d h e = λ j. (sym e j).items
listed-at (w ∷ ws) (suc i) d h e = let l : i < length ws = omega (arith, h) in listed-at ws i d l e

pub in-push : (xs : List ℕ) (x p : ℕ) → is_in (xs ++ x ∷ []) p ≡ (is_in xs p || (x == p))
in-push xs x p = list_any-append (λ y. y == p) xs (x ∷ []) ∙ ap (λ b. is_in xs p || b) (or-none (x == p))
  where
    or-none : (b : Bool) → (b || false) ≡ b
    or-none true = refl
    or-none false = refl

-- one more place at the end of one of the lists
module _ (lists : Lists) (a p : ℕ) (w : Vec ℕ Global) (within : a < length lists) (grown : w.items ≡ listed lists a ++ p ∷ []) where
  pub push-has : is_in (listed (set lists a w) a) p ≡ true
  push-has = ap (λ xs. is_in xs p) (listed-set_same lists a w within ∙ grown) ∙ in-push (listed lists a) p p ∙ last (is_in (listed lists a) p)
    where
      last : (b : Bool) → (b || (p == p)) ≡ true
      last true = refl
      last false = eq-eqb p p refl

  pub push-keeps : (q b : ℕ) → is_in (listed lists b) q ≡ true → is_in (listed (set lists a w) b) q ≡ true
  push-keeps q b h = by (a == b) refl
    where
      by : (k : Bool) → (a == b) ≡ k → is_in (listed (set lists a w) b) q ≡ true
      by true k =
          let same : a ≡ b = eqb-true a b k in
          subst (λ i. is_in (listed (set lists a w) i) q ≡ true) same
          (ap (λ xs. is_in xs q) (listed-set_same lists a w within ∙ grown) ∙ in-push (listed lists a) p q
          ∙ ap (λ r. r || (p == q)) (subst (λ i. is_in (listed lists i) q ≡ true) (sym same) h))
      by false k = ap (λ xs. is_in xs q) (listed-set_other lists a b w (λ e. absurd (cc (sym (eq-eqb a b e) ∙ k)))) ∙ h

  pub push-cases : (q b : ℕ) → is_in (listed (set lists a w) b) q ≡ true → ((q ≡ p) × (b ≡ a)) ⊎ (is_in (listed lists b) q ≡ true)
  push-cases q b h = by (a == b) refl
    where
      also : a ≡ b → (r : Bool) → (p == q) ≡ r → ((q ≡ p) × (b ≡ a)) ⊎ (is_in (listed lists b) q ≡ true)
      also same true k = inl (sym (eqb-true p q k), sym same)
      also same false k =
          let there : is_in (listed lists a) q ≡ true =
          or-left (is_in (listed lists a) q) (p == q) k
          (sym (in-push (listed lists a) p q) ∙ ap (λ xs. is_in xs q) (sym (listed-set_same lists a w within ∙ grown)) ∙ subst (λ i. is_in (listed (set lists a w) i) q ≡ true) (sym same) h) in
          inr (subst (λ i. is_in (listed lists i) q ≡ true) same there)
        where
          or-left : (x y : Bool) → y ≡ false → (x || y) ≡ true → x ≡ true
          or-left true y e f = refl
          or-left false y e f = absurd (cc (sym f ∙ e))

      by : (k : Bool) → (a == b) ≡ k → ((q ≡ p) × (b ≡ a)) ⊎ (is_in (listed lists b) q ≡ true)
      by true k = also (eqb-true a b k) (p == q) refl
      by false k = inr (ap (λ xs. is_in xs q) (sym (listed-set_other lists a b w (λ e. absurd (cc (sym (eq-eqb a b e) ∙ k))))) ∙ h)

-- one of the lists is emptied
module _ (lists : Lists) (a : ℕ) (w : Vec ℕ Global) (within : a < length lists) (none : w.items ≡ []) where
  pub emptied-cases : (q b : ℕ) → is_in (listed (set lists a w) b) q ≡ true → (b ≡ a → ⊥) × (is_in (listed lists b) q ≡ true)
  emptied-cases q b h = by (a == b) refl
    where
      by : (k : Bool) → (a == b) ≡ k → (b ≡ a → ⊥) × (is_in (listed lists b) q ≡ true)
      by true k =
          let gone : is_in (listed (set lists a w) b) q ≡ false = ap (λ i. is_in (listed (set lists a w) i) q) (sym (eqb-true a b k)) ∙ ap (λ xs. is_in xs q) (listed-set_same lists a w within ∙ none) in
          absurd (cc (sym h ∙ gone))
      by false k =
          let apart : a ≡ b → ⊥ = λ e. absurd (cc (sym (eq-eqb a b e) ∙ k)) in
          (λ e. apart (sym e), ap (λ xs. is_in xs q) (sym (listed-set_other lists a b w apart)) ∙ h)

  pub emptied-keeps : (q b : ℕ) → is_in (listed lists b) q ≡ true → (is_in (listed (set lists a w) b) q ≡ true) ⊎ (is_in (listed lists a) q ≡ true)
  emptied-keeps q b h = by (a == b) refl
    where
      by : (k : Bool) → (a == b) ≡ k → (is_in (listed (set lists a w) b) q ≡ true) ⊎ (is_in (listed lists a) q ≡ true)
      by true k = inr (subst (λ i. is_in (listed lists i) q ≡ true) (sym (eqb-true a b k)) h)
      by false k = inl (ap (λ xs. is_in xs q) (listed-set_other lists a b w (λ e. absurd (cc (sym (eq-eqb a b e) ∙ k)))) ∙ h)

-- what holds of the first places, and of the next, holds of all these
pub all-more : (places : List ℕ) (i : ℕ) (P : ℕ → Type 0) → i < length places → ((p : ℕ) → is_in (take i places) p ≡ true → P p) → P (slice_index places i)
    → (p : ℕ) → is_in (take (i + 1) places) p ≡ true → P p
all-more places i P within before this p there = by (is_in (take i places) p) refl (sym (list_any_more (λ x. x == p) places i 0 within) ∙ there)
  where
    by : (b : Bool) → is_in (take i places) p ≡ b → (is_in (take i places) p || (slice_index places i == p)) ≡ true → P p
    by true k e = before p k
    by false k e = subst P (eqb-true (slice_index places i) p (sym (ap (λ b. b || (slice_index places i == p)) k) ∙ e)) this

pub in-at : (places : List ℕ) (i : ℕ) → i < length places → is_in places (slice_index places i) ≡ true
in-at places i within = list_any_at (λ x. x == slice_index places i) places i 0 within (eq-eqb (slice_index places i) (slice_index places i) refl)

pub left-replicate : (n p : ℕ) → p < n → is_left (replicate n false) p ≡ true
left-replicate zero p h = absurd (omega (arith, h))
left-replicate (suc n) zero h = refl
left-replicate (suc n) (suc p) h = let l : p < n = omega (arith, h) in left-replicate n p l
