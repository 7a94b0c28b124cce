-- The walk from the last event down: what waits, and what was taken so far, rising.
use Rattle.std.proofs.Common.{◌≡◌, ℕ, suc, ◌==◌, ◌≤◌, ◌<◌, max, length, Bool, true, false, cond, ◌||◌, ◌⊎◌, inl, inr, List, [], ◌∷◌, refl, sym, ap, subst, ◌∙◌, arith, eq-eqb, eqb-true}
use Rattle.std.proofs.lemmas.Bool.Decides.{nat_tests}
use Rattle.std.proofs.lemmas.Map.Keys.{ge_from_not_lt}
use Rattle.std.specs.Ordering.{nat_cmp, is_eq, is_lt}
use Rattle.std.specs.List.{list_any}
use Rattle.mx_graph.specs.Record.{is_in}
use Rattle.mx_graph.specs.Graph.{IsClosed, IsLeastClosed}
use Rattle.mx_graph.specs.Edges.{LeadDown, Rises, IsAllFrom}
use Rattle.mx_graph.proofs.Closure.{or_cases, or_left, or_right}

-- ---- the order of numbers

pub equal_to : (k q : ℕ) → is_eq (nat_cmp k q) ≡ true → k ≡ q
equal_to k q e = grind (arith, nat_tests)

pub equal_from : (k : ℕ) → is_eq (nat_cmp k k) ≡ true
equal_from k = grind (arith, nat_tests)

-- one above the greatest of some numbers
abbrev pub above : List ℕ → ℕ
above [] = 0
above (x ∷ xs) = max (suc x) (above xs)

pub above-member : (q : ℕ) (xs : List ℕ) → list_any (λ x. is_eq (nat_cmp q x)) xs ≡ true → q < above xs
above-member q [] e = absurd (cc e)
above-member q (x ∷ xs) e = by (above-member q xs) (or_cases (is_eq (nat_cmp q x)) _ e)
  where
    by : (list_any (λ y. is_eq (nat_cmp q y)) xs ≡ true → q < above xs) → (is_eq (nat_cmp q x) ≡ true) ⊎ (list_any (λ y. is_eq (nat_cmp q y)) xs ≡ true) → q < max (suc x) (above xs)
    by later (inl k) = let f : q ≡ x = equal_to q x k in omega arith
    by later (inr k) = let f : q < above xs = later k in omega arith

pub above-bound : (k : ℕ) (xs : List ℕ) → ((q : ℕ) → list_any (λ x. is_eq (nat_cmp q x)) xs ≡ true → q < k) → above xs ≤ k
above-bound k [] h = omega arith
above-bound k (x ∷ xs) h =
    let here : x < k = h x (or_left (is_eq (nat_cmp x x)) _ (equal_from x)) in
    let later : above xs ≤ k = above-bound k xs (λ q e. h q (or_right (is_eq (nat_cmp q x)) _ e)) in
    omega arith

-- ---- the walk

-- what waits and what was taken so far: all that is reached is among them or after them, and no more
pub record IsWalk (cites : ℕ → List ℕ) (first : ℕ → Bool) (taken : List ℕ) (waiting : ℕ → Bool) : Type 0 where
  pub has_first : (p : ℕ) → first p ≡ true → (is_in taken p || waiting p) ≡ true
  pub closed : (x y : ℕ) → is_in taken x ≡ true → is_in (cites x) y ≡ true → (is_in taken y || waiting y) ≡ true
  pub least : (other : ℕ → Bool) → ((p : ℕ) → first p ≡ true → other p ≡ true)
      → ((x y : ℕ) → other x ≡ true → is_in (cites x) y ≡ true → other y ≡ true)
      → (p : ℕ) → (is_in taken p || waiting p) ≡ true → other p ≡ true
  pub rises : Rises taken
  pub below : (p x : ℕ) → waiting p ≡ true → is_in taken x ≡ true → p < x

pub walk-begins : (cites : ℕ → List ℕ) (first : ℕ → Bool) → IsWalk cites first [] first
walk-begins cites first =
    record { has_first = λ p e. e; closed = λ x y e. absurd (cc e); least = λ other has closed p e. has p e; rises = tt; below = λ p x e k. absurd (cc k) }

-- the last event that waits is taken, and what it cites waits
module _ (cites : ℕ → List ℕ) (first : ℕ → Bool) (taken : List ℕ) (old mid new : ℕ → Bool) (k : ℕ) (walk : IsWalk cites first taken old) (here : old k ≡ true)
    (greatest : (q : ℕ) → old q ≡ true → is_lt (nat_cmp k q) ≡ false) (popped : (q : ℕ) → mid q ≡ cond (is_eq (nat_cmp k q)) false (old q))
    (waits : (q : ℕ) → new q ≡ (mid q || is_in (cites k) q)) (down : LeadDown cites) where
  -- what waited before waits, or was taken now
  pop_cases : (q : ℕ) → old q ≡ true → (k ≡ q) ⊎ (mid q ≡ true)
  pop_cases q e = by (is_eq (nat_cmp k q)) refl
    where
      by : (b : Bool) → is_eq (nat_cmp k q) ≡ b → (k ≡ q) ⊎ (mid q ≡ true)
      by true f = inl (equal_to k q f)
      by false f = inr (popped q ∙ ap (λ b. cond b false (old q)) f ∙ e)

  pop_parts : (q : ℕ) → mid q ≡ true → (old q ≡ true) × (q < k)
  pop_parts q e = by (is_eq (nat_cmp k q)) refl
    where
      by : (b : Bool) → is_eq (nat_cmp k q) ≡ b → (old q ≡ true) × (q < k)
      by true f = absurd (cc (sym e ∙ popped q ∙ ap (λ b. cond b false (old q)) f))
      by false f =
          let had : old q ≡ true = sym (ap (λ b. cond b false (old q)) f) ∙ sym (popped q) ∙ e in
          let low : q ≤ k = ge_from_not_lt k q (greatest q had) in
          let other : k ≡ q → true ≡ false = λ g. sym (subst (λ w. is_eq (nat_cmp k w) ≡ true) g (equal_from k)) ∙ f in
          (had, below_of other low)
        where
          below_of : (k ≡ q → true ≡ false) → q ≤ k → q < k
          below_of n l = let m : ¬ (k ≡ q) = λ g. absurd (cc (n g)) in omega arith

  new_parts : (q : ℕ) → new q ≡ true → (mid q ≡ true) ⊎ (is_in (cites k) q ≡ true)
  new_parts q e = or_cases (mid q) (is_in (cites k) q) (sym (waits q) ∙ e)

  -- each event that waits now is below what was taken now
  pub new_below : (q : ℕ) → new q ≡ true → q < k
  new_below q e = by (new_parts q e)
    where
      by : (mid q ≡ true) ⊎ (is_in (cites k) q ≡ true) → q < k
      by (inl f) = (pop_parts q f).1
      by (inr f) = down k q f

  stays : (q : ℕ) → (is_in taken q || old q) ≡ true → (is_in (k ∷ taken) q || new q) ≡ true
  stays q e = by (or_cases (is_in taken q) (old q) e)
    where
      by_old : (k ≡ q) ⊎ (mid q ≡ true) → (is_in (k ∷ taken) q || new q) ≡ true
      by_old (inl f) = or_left (is_in (k ∷ taken) q) (new q) (or_left (k == q) (is_in taken q) (eq-eqb k q f))
      by_old (inr f) = or_right (is_in (k ∷ taken) q) (new q) (waits q ∙ or_left (mid q) (is_in (cites k) q) f)

      by : (is_in taken q ≡ true) ⊎ (old q ≡ true) → (is_in (k ∷ taken) q || new q) ≡ true
      by (inl f) = or_left (is_in (k ∷ taken) q) (new q) (or_right (k == q) (is_in taken q) f)
      by (inr f) = by_old (pop_cases q f)

  pub walk-goes : IsWalk cites first (k ∷ taken) new
  walk-goes =
      record {
        has_first = λ p e. stays p (walk.has_first p e);
        closed = λ x y e m. by_closed x y m (or_cases (k == x) (is_in taken x) e);
        least = λ other has closed p e. by_least other has closed p (or_cases (is_in (k ∷ taken) p) (new p) e);
        rises = (λ y e. walk.below k y here e, walk.rises);
        below = λ p x e m. by_below p x e (or_cases (k == x) (is_in taken x) m);
      }
    where
      by_closed : (x y : ℕ) → is_in (cites x) y ≡ true → ((k == x) ≡ true) ⊎ (is_in taken x ≡ true) → (is_in (k ∷ taken) y || new y) ≡ true
      by_closed x y m (inl f) =
          or_right (is_in (k ∷ taken) y) (new y) (waits y ∙ or_right (mid y) (is_in (cites k) y) (subst (λ w. is_in (cites w) y ≡ true) (sym (eqb-true k x f)) m))
      by_closed x y m (inr f) = stays y (walk.closed x y f m)

      by_least : (other : ℕ → Bool) → ((p : ℕ) → first p ≡ true → other p ≡ true) → ((x y : ℕ) → other x ≡ true → is_in (cites x) y ≡ true → other y ≡ true)
          → (p : ℕ) → (is_in (k ∷ taken) p ≡ true) ⊎ (new p ≡ true) → other p ≡ true
      by_least other has closed p e = by e
        where
          taken_now : other k ≡ true
          taken_now = walk.least other has closed k (or_right (is_in taken k) (old k) here)

          by_taken : ((k == p) ≡ true) ⊎ (is_in taken p ≡ true) → other p ≡ true
          by_taken (inl f) = subst (λ w. other w ≡ true) (eqb-true k p f) taken_now
          by_taken (inr f) = walk.least other has closed p (or_left (is_in taken p) (old p) f)

          by_new : (mid p ≡ true) ⊎ (is_in (cites k) p ≡ true) → other p ≡ true
          by_new (inl f) = walk.least other has closed p (or_right (is_in taken p) (old p) (pop_parts p f).0)
          by_new (inr f) = closed k p taken_now f

          by : (is_in (k ∷ taken) p ≡ true) ⊎ (new p ≡ true) → other p ≡ true
          by (inl f) = by_taken (or_cases (k == p) (is_in taken p) f)
          by (inr f) = by_new (new_parts p f)

      by_below : (p x : ℕ) → new p ≡ true → ((k == x) ≡ true) ⊎ (is_in taken x ≡ true) → p < x
      by_below p x e (inl f) = subst (λ w. p < w) (eqb-true k x f) (new_below p e)
      by_below p x e (inr f) = let low : p < k = new_below p e in let high : k < x = walk.below k x here f in omega arith

pub or_none : (a b : Bool) → b ≡ false → (a || b) ≡ true → a ≡ true
or_none true b f e = refl
or_none false b f e = absurd (cc (sym f ∙ e))

-- where nothing waits, what was taken is all
pub walk-ends : (cites : ℕ → List ℕ) (first : ℕ → Bool) (taken : List ℕ) (waiting : ℕ → Bool) → IsWalk cites first taken waiting → ((q : ℕ) → waiting q ≡ false) → IsAllFrom cites first (is_in taken)
walk-ends cites first taken waiting walk none =
    record {
      has_first = λ p e. or_none (is_in taken p) (waiting p) (none p) (walk.has_first p e);
      closed = λ x y e m. or_none (is_in taken y) (waiting y) (none y) (walk.closed x y e m);
      least = λ other has closed p e. walk.least other has closed p (or_left (is_in taken p) (waiting p) e);
    }

-- ---- from the starts

any_from : (test : ℕ → Bool) (x : ℕ) (xs : List ℕ) → is_in xs x ≡ true → test x ≡ true → list_any test xs ≡ true
any_from test x [] h e = absurd (cc h)
any_from test x (y ∷ ys) h e = by (any_from test x ys) (or_cases (y == x) (is_in ys x) h)
  where
    by : (is_in ys x ≡ true → test x ≡ true → list_any test ys ≡ true) → ((y == x) ≡ true) ⊎ (is_in ys x ≡ true) → list_any test (y ∷ ys) ≡ true
    by later (inl k) = or_left (test y) (list_any test ys) (ap test (eqb-true y x k) ∙ e)
    by later (inr k) = or_right (test y) (list_any test ys) (later k e)

any_to : (test : ℕ → Bool) (xs : List ℕ) → list_any test xs ≡ true → (x : ℕ) × (is_in xs x ≡ true) × (test x ≡ true)
any_to test [] e = absurd (cc e)
any_to test (y ∷ ys) e = by (any_to test ys) (or_cases (test y) (list_any test ys) e)
  where
    by : (list_any test ys ≡ true → (x : ℕ) × (is_in ys x ≡ true) × (test x ≡ true)) → (test y ≡ true) ⊎ (list_any test ys ≡ true) → (x : ℕ) × (is_in (y ∷ ys) x ≡ true) × (test x ≡ true)
    by later (inl k) = (y, or_left (y == y) (is_in ys y) (eq-eqb y y refl), k)
    by later (inr k) = let r = later k in (r.0, or_right (y == r.0) (is_in ys r.0) r.1, r.2)

-- what the starts cite, and all from there, is the least closed set
pub all_from-starts : (cites : ℕ → List ℕ) (starts : List ℕ) (empty first all : ℕ → Bool) → ((p : ℕ) → empty p ≡ false) → ((p : ℕ) → first p ≡ (empty p || list_any (λ s. is_in (cites s) p) starts))
    → IsAllFrom cites first all → IsLeastClosed cites starts all
all_from-starts cites starts empty first all none waits reached = (whole, λ other c. reached.least other (λ q e. started other c q e) (λ a b e. c a b (or_right (is_in starts a) (other a) e)))
  where
    is_first : (p : ℕ) → first p ≡ list_any (λ s. is_in (cites s) p) starts
    is_first p = waits p ∙ ap (λ b. b || list_any (λ s. is_in (cites s) p) starts) (none p)

    whole : IsClosed cites starts all
    whole x y h k = by (or_cases (is_in starts x) (all x) h)
      where
        by : (is_in starts x ≡ true) ⊎ (all x ≡ true) → all y ≡ true
        by (inl e) = reached.has_first y (is_first y ∙ any_from (λ s. is_in (cites s) y) x starts e k)
        by (inr e) = reached.closed x y e k

    started : (other : ℕ → Bool) → IsClosed cites starts other → (q : ℕ) → first q ≡ true → other q ≡ true
    started other c q e =
        let r = any_to (λ s. is_in (cites s) q) starts (sym (is_first q) ∙ e) in
        c r.0 q (or_left (is_in starts r.0) (other r.0) r.1) r.2

pub empty-from : (xs : List ℕ) → (0 < length xs → false ≡ true) → xs ≡ []
empty-from [] h = refl
empty-from (x ∷ xs) h = absurd (cc (h (omega arith)))
