-- The walk down the chains of several states, from the greatest row that waits.
use Rattle.std.proofs.Common.{◌≡◌, ℕ, zero, suc, ◌==◌, ◌≤◌, ◌<◌, nat_le, nat_lt, Bool, true, false, not, ◌&&◌, ◌||◌, ◌⊎◌, inl, inr, List, [], ◌∷◌, length, get_or, refl, sym, ap, subst, ◌∙◌, arith, eq-eqb, eqb-true}
use Rattle.std.proofs.lemmas.List.Folds.{list_any_at, list_all_at}
use Rattle.std.specs.List.{list_all, list_any}
use Rattle.mx_graph.specs.Record.{is_in}
use Rattle.mx_graph.specs.Edges.{LeadDown, IsAllFrom}
use Rattle.mx_graph.proofs.Closure.{or_cases, or_left, or_right}
use Rattle.mx_state_res.specs.Masks.{IsApart}
use Rattle.mx_state_res.proofs.TestLemmas.{and-first, and-second, and-make, and-cases, not-true, lt-from, lt-to, le-from, le-to, order}

-- ---- what is reached at a level

module _ (cites : ℕ → List ℕ) (states : ℕ) where
  -- down to the level n: what was reached above it waits below it, and nothing else does
  pub record IsReached (n : ℕ) (first reach waits : ℕ → ℕ → Bool) : Type 0 where
    pub sound : (p i : ℕ) → i < states → waits p i ≡ true → reach i p ≡ true
    pub first_waits : (p i : ℕ) → i < states → first i p ≡ true → p < n → waits p i ≡ true
    pub cited_waits : (x y i : ℕ) → i < states → n ≤ x → reach i x ≡ true → is_in (cites x) y ≡ true → y < n → waits y i ≡ true

module _ (cites : ℕ → List ℕ) (down : LeadDown cites) (states : ℕ) where
  module _ (n : ℕ) (first reach old : ℕ → ℕ → Bool) (all : (i : ℕ) → i < states → IsAllFrom cites (first i) (reach i)) (is : IsReached cites states n first reach old) where
    module _ (t : ℕ) (top : (q i : ℕ) → old q i ≡ true → q ≤ t) where
      abbrev held : ℕ → ℕ → Bool
      held i z = reach i z && (nat_le n z || (old z i || nat_lt z t))

      -- what is reached is above the level, or waits, or is below all that waits
      placed : (i x : ℕ) → i < states → reach i x ≡ true → (n ≤ x) ⊎ ((old x i ≡ true) ⊎ (x < t))
      placed i x l e = out x (and-second (reach i x) _ ((all i l).least (held i) first_in closed x e))
        where
          out : (z : ℕ) → (nat_le n z || (old z i || nat_lt z t)) ≡ true → (n ≤ z) ⊎ ((old z i ≡ true) ⊎ (z < t))
          out z f = by (or_cases (nat_le n z) _ f)
            where
              later : (old z i ≡ true) ⊎ (nat_lt z t ≡ true) → (n ≤ z) ⊎ ((old z i ≡ true) ⊎ (z < t))
              later (inl g) = inr (inl g)
              later (inr g) = inr (inr (lt-from z t g))

              by : (nat_le n z ≡ true) ⊎ ((old z i || nat_lt z t) ≡ true) → (n ≤ z) ⊎ ((old z i ≡ true) ⊎ (z < t))
              by (inl g) = inl (le-from n z g)
              by (inr g) = later (or_cases (old z i) (nat_lt z t) g)

          into : (z : ℕ) → reach i z ≡ true → (z < n → (old z i ≡ true) ⊎ (z < t)) → held i z ≡ true
          into z r h = and-make (reach i z) _ r (by (order n z))
            where
              late : (old z i ≡ true) ⊎ (z < t) → (nat_le n z || (old z i || nat_lt z t)) ≡ true
              late (inl g) = or_right (nat_le n z) _ (or_left (old z i) _ g)
              late (inr g) = or_right (nat_le n z) _ (or_right (old z i) _ (lt-to z t g))

              by : (n ≤ z) ⊎ (z < n) → (nat_le n z || (old z i || nat_lt z t)) ≡ true
              by (inl g) = or_left (nat_le n z) _ (le-to n z g)
              by (inr g) = late (h g)

          first_in : (p : ℕ) → first i p ≡ true → held i p ≡ true
          first_in p f = into p ((all i l).has_first p f) (λ b. inl (is.first_waits p i l f b))

          closed : (a b : ℕ) → held i a ≡ true → is_in (cites a) b ≡ true → held i b ≡ true
          closed a b f c =
              let r : reach i a ≡ true = and-first (reach i a) _ f in
              into b ((all i l).closed a b r c) (λ m. from r m (out a (and-second (reach i a) _ f)))
            where
              from : reach i a ≡ true → b < n → (n ≤ a) ⊎ ((old a i ≡ true) ⊎ (a < t)) → (old b i ≡ true) ⊎ (b < t)
              from r m (inl g) = inl (is.cited_waits a b i l g r c m)
              from r m (inr (inl g)) = let h : a ≤ t = top a i g in let k : b < a = down a b c in inr (omega arith)
              from r m (inr (inr g)) = let k : b < a = down a b c in inr (omega arith)

      module _ (below : t < n) (new : ℕ → ℕ → Bool)
          (new_parts : (q i : ℕ) → new q i ≡ true → (old q i ≡ true) ⊎ ((is_in (cites t) q ≡ true) × (old t i ≡ true)))
          (new_old : (q i : ℕ) → old q i ≡ true → q < t → new q i ≡ true) (new_cited : (q i : ℕ) → is_in (cites t) q ≡ true → old t i ≡ true → new q i ≡ true) where
        -- the mask of the row that is taken is exact
        pub mask-exact : (i : ℕ) → i < states → reach i t ≡ true → old t i ≡ true
        mask-exact i l r = by (placed i t l r)
          where
            by : (n ≤ t) ⊎ ((old t i ≡ true) ⊎ (t < t)) → old t i ≡ true
            by (inl g) = absurd (omega arith)
            by (inr (inl g)) = g
            by (inr (inr g)) = absurd (omega arith)

        -- what is reached from t up is above the level, or is t
        pub reached-above : (i x : ℕ) → i < states → reach i x ≡ true → t ≤ x → (n ≤ x) ⊎ (x ≡ t)
        reached-above i x l r h = by (placed i x l r)
          where
            by : (n ≤ x) ⊎ ((old x i ≡ true) ⊎ (x < t)) → (n ≤ x) ⊎ (x ≡ t)
            by (inl g) = inl g
            by (inr (inl g)) = let m : x ≤ t = top x i g in inr (omega arith)
            by (inr (inr g)) = absurd (omega arith)

        -- the level goes down to t
        pub reached-goes : IsReached cites states t first reach new
        reached-goes = record { sound = sound; first_waits = first_waits; cited_waits = cited_waits }
          where
            sound : (p i : ℕ) → i < states → new p i ≡ true → reach i p ≡ true
            sound p i l e = by (new_parts p i e)
              where
                by : (old p i ≡ true) ⊎ ((is_in (cites t) p ≡ true) × (old t i ≡ true)) → reach i p ≡ true
                by (inl f) = is.sound p i l f
                by (inr f) = (all i l).closed t p (is.sound t i l f.1) f.0

            first_waits : (p i : ℕ) → i < states → first i p ≡ true → p < t → new p i ≡ true
            first_waits p i l e m = new_old p i (is.first_waits p i l e (omega arith)) m

            cited_waits : (x y i : ℕ) → i < states → t ≤ x → reach i x ≡ true → is_in (cites x) y ≡ true → y < t → new y i ≡ true
            cited_waits x y i l h r c m = by (reached-above i x l r h)
              where
                by : (n ≤ x) ⊎ (x ≡ t) → new y i ≡ true
                by (inl g) = new_old y i (is.cited_waits x y i l g r c (omega arith)) m
                by (inr g) = new_cited y i (subst (λ w. is_in (cites w) y ≡ true) g c) (mask-exact i l (subst (λ w. reach i w ≡ true) g r))

    -- where what waits waits for all states, the states reach the same below the level
    module _ (common : (p i j : ℕ) → j < states → old p i ≡ true → old p j ≡ true) where
      abbrev shown_by : ℕ → ℕ → ℕ → Bool
      shown_by i j z = reach i z && (nat_le n z || reach j z)

      pub same-below : (i j x : ℕ) → i < states → j < states → reach i x ≡ true → x < n → reach j x ≡ true
      same-below i j x l m e h = out (or_cases (nat_le n x) (reach j x) (and-second (reach i x) _ ((all i l).least (shown_by i j) first_in closed x e)))
        where
          out : (nat_le n x ≡ true) ⊎ (reach j x ≡ true) → reach j x ≡ true
          out (inl f) = let g : n ≤ x = le-from n x f in absurd (omega arith)
          out (inr f) = f

          into : (z : ℕ) → reach i z ≡ true → (z < n → reach j z ≡ true) → shown_by i j z ≡ true
          into z r k = and-make (reach i z) _ r (by (order n z))
            where
              by : (n ≤ z) ⊎ (z < n) → (nat_le n z || reach j z) ≡ true
              by (inl g) = or_left (nat_le n z) _ (le-to n z g)
              by (inr g) = or_right (nat_le n z) _ (k g)

          first_in : (p : ℕ) → first i p ≡ true → shown_by i j p ≡ true
          first_in p f = into p ((all i l).has_first p f) (λ b. is.sound p j m (common p i j m (is.first_waits p i l f b)))

          closed : (a b : ℕ) → shown_by i j a ≡ true → is_in (cites a) b ≡ true → shown_by i j b ≡ true
          closed a b f c =
              let r : reach i a ≡ true = and-first (reach i a) _ f in
              into b ((all i l).closed a b r c) (λ k. from r k (or_cases (nat_le n a) (reach j a) (and-second (reach i a) _ f)))
            where
              from : reach i a ≡ true → b < n → (nat_le n a ≡ true) ⊎ (reach j a ≡ true) → reach j b ≡ true
              from r k (inl g) = is.sound b j m (common b i j m (is.cited_waits a b i l (le-from n a g) r c k))
              from r k (inr g) = (all j m).closed a b g c

-- ---- what was found

module _ (states : ℕ) where
  -- the rows from the level n on that are in some chains and not in all
  pub record IsFound (n : ℕ) (reach : ℕ → ℕ → Bool) (found : List ℕ) : Type 0 where
    pub has_apart : (p : ℕ) → n ≤ p → IsApart states reach p → is_in found p ≡ true
    pub is_apart : (p : ℕ) → is_in found p ≡ true → IsApart states reach p

  module _ (n t : ℕ) (reach : ℕ → ℕ → Bool) (found : List ℕ) (is : IsFound n reach found) (above : (i x : ℕ) → i < states → reach i x ≡ true → t ≤ x → (n ≤ x) ⊎ (x ≡ t)) where
    pub found-goes : IsApart states reach t → IsFound t reach (t ∷ found)
    found-goes here = record { has_apart = λ p h a. has p a (above a.in_some.0 p a.in_some.1 a.in_some.2 h); is_apart = λ p e. from p (or_cases (t == p) (is_in found p) e) }
      where
        has : (p : ℕ) → IsApart states reach p → (n ≤ p) ⊎ (p ≡ t) → is_in (t ∷ found) p ≡ true
        has p a (inl g) = or_right (t == p) (is_in found p) (is.has_apart p g a)
        has p a (inr g) = or_left (t == p) (is_in found p) (eq-eqb t p (sym g))

        from : (p : ℕ) → ((t == p) ≡ true) ⊎ (is_in found p ≡ true) → IsApart states reach p
        from p (inl g) = subst (IsApart states reach) (eqb-true t p g) here
        from p (inr g) = is.is_apart p g

    pub found-stays : (IsApart states reach t → ⊥) → IsFound t reach found
    found-stays none = record { has_apart = λ p h a. has p a (above a.in_some.0 p a.in_some.1 a.in_some.2 h); is_apart = is.is_apart }
      where
        has : (p : ℕ) → IsApart states reach p → (n ≤ p) ⊎ (p ≡ t) → is_in found p ≡ true
        has p a (inl g) = is.has_apart p g a
        has p a (inr g) = absurd (none (subst (IsApart states reach) g a))

-- ---- a mask that differs

some-at : (bs : List Bool) → list_any (λ b. b) bs ≡ true → (i : ℕ) × (i < length bs) × (get_or bs i false ≡ true)
some-at [] e = absurd (cc e)
some-at (b ∷ bs) e = by (some-at bs) (or_cases b _ e)
  where
    by : (list_any (λ b. b) bs ≡ true → (i : ℕ) × (i < length bs) × (get_or bs i false ≡ true)) → (b ≡ true) ⊎ (list_any (λ b. b) bs ≡ true) → (i : ℕ) × (i < length (b ∷ bs)) × (get_or (b ∷ bs) i false ≡ true)
    by later (inl f) = (zero, omega arith, f)
    by later (inr f) = let r = later f in let l : r.0 < length bs = r.1 in (suc r.0, omega arith, r.2)

lack-at : (bs : List Bool) → list_all (λ b. b) bs ≡ false → (i : ℕ) × (i < length bs) × (get_or bs i false ≡ false)
lack-at [] e = absurd (cc e)
lack-at (b ∷ bs) e = by (lack-at bs) (and-cases b _ e)
  where
    by : (list_all (λ b. b) bs ≡ false → (i : ℕ) × (i < length bs) × (get_or bs i false ≡ false)) → (b ≡ false) ⊎ (list_all (λ b. b) bs ≡ false) → (i : ℕ) × (i < length (b ∷ bs)) × (get_or (b ∷ bs) i false ≡ false)
    by later (inl f) = (zero, omega arith, f)
    by later (inr f) = let r = later f in let l : r.0 < length bs = r.1 in (suc r.0, omega arith, r.2)

module _ (states : ℕ) (reach : ℕ → ℕ → Bool) (t : ℕ) (bs : List Bool) (wide : length bs ≡ states)
    (sound : (i : ℕ) → i < states → get_or bs i false ≡ true → reach i t ≡ true) (exact : (i : ℕ) → i < states → reach i t ≡ true → get_or bs i false ≡ true) where
  lacks : (i : ℕ) → i < states → get_or bs i false ≡ false → reach i t ≡ false
  lacks i l e = by (reach i t) refl
    where
      by : (b : Bool) → reach i t ≡ b → reach i t ≡ false
      by true f = absurd (cc (sym e ∙ exact i l f))
      by false f = f

  pub differs-apart : (list_any (λ b. b) bs && not (list_all (λ b. b) bs)) ≡ true → IsApart states reach t
  differs-apart e =
      let a = some-at bs (and-first (list_any (λ b. b) bs) _ e) in
      let b = lack-at bs (not-true (list_all (λ b. b) bs) (and-second (list_any (λ b. b) bs) _ e)) in
      let l : a.0 < length bs = a.1 in
      let m : b.0 < length bs = b.1 in
      let l' : a.0 < states = omega arith in
      let m' : b.0 < states = omega arith in
      record { in_some = (a.0, l', sound a.0 l' a.2); not_in_all = (b.0, m', lacks b.0 m' b.2) }

  pub same-not_apart : (list_any (λ b. b) bs && not (list_all (λ b. b) bs)) ≡ false → IsApart states reach t → ⊥
  same-not_apart e a =
      let l : a.in_some.0 < states = a.in_some.1 in
      let m : a.not_in_all.0 < states = a.not_in_all.1 in
      let some : list_any (λ b. b) bs ≡ true = list_any_at (λ b. b) bs a.in_some.0 false (omega arith) (exact a.in_some.0 l a.in_some.2) in
      let none : list_all (λ b. b) bs ≡ false = list_all_at (λ b. b) bs a.not_in_all.0 false (omega arith) (missing a.not_in_all.0 m a.not_in_all.2) in
      cc (sym e ∙ and-make (list_any (λ b. b) bs) _ some (ap not none))
    where
      missing : (i : ℕ) → i < states → reach i t ≡ false → get_or bs i false ≡ false
      missing i l f = by (get_or bs i false) refl
        where
          by : (b : Bool) → get_or bs i false ≡ b → get_or bs i false ≡ false
          by true g = absurd (cc (sym f ∙ sound i l g))
          by false g = g
