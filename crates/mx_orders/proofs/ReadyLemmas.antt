-- Ranks that follow one another: which are left, how many of these each waits for, and which wait for none.
use Rattle.std.proofs.Common.{◌≡◌, ℕ, ◌+◌, ◌-◌, ◌==◌, ◌<◌, Bool, true, false, cond, ◌&&◌, ◌||◌, ◌⊎◌, inl, inr, List, [], ◌∷◌, refl, sym, ap, subst, ◌∙◌, arith, eq-eqb, eqb-true}
use Rattle.std.specs.Ordering.{nat_cmp, is_eq}
use Rattle.std.proofs.lemmas.List.Sums.{sum_by-cons}
use Rattle.std.specs.List.{sum_by}
use Rattle.mx_graph.specs.Record.{is_in}
use Rattle.mx_graph.proofs.Closure.{or_cases, or_left, or_right}
use Rattle.mx_graph.proofs.WalkLemmas.{equal_to, equal_from}
use Rattle.mx_orders.proofs.Members.{In, Distinct}
use Rattle.mx_orders.proofs.Permutations.{cut, cut-cases, cut-distinct, cut-gone, cut-within}
use Rattle.mx_orders.specs.Ranks.{times}

-- ---- how often a list has a number

abbrev one_at : ℕ → ℕ → ℕ
one_at p x = cond (x == p) 1 0

pub times-cons : (p x : ℕ) (xs : List ℕ) → times p (x ∷ xs) ≡ one_at p x + times p xs
times-cons p x xs = sum_by-cons (one_at p) x xs

pub times-in : (p : ℕ) (xs : List ℕ) → is_in xs p ≡ true → 0 < times p xs
times-in p [] e = absurd (cc e)
times-in p (x ∷ xs) e = by (times-in p xs) (or_cases (x == p) (is_in xs p) e)
  where
    by : (is_in xs p ≡ true → 0 < times p xs) → ((x == p) ≡ true) ⊎ (is_in xs p ≡ true) → 0 < times p (x ∷ xs)
    by later (inl k) =
        let s = times-cons p x xs in
        let o : one_at p x ≡ 1 = ap (λ b. cond b 1 0) k in
        omega arith
    by later (inr k) =
        let s = times-cons p x xs in
        let l = later k in
        omega arith

pub times-none : (p : ℕ) (xs : List ℕ) → is_in xs p ≡ false → times p xs ≡ 0
times-none p [] e = refl
times-none p (x ∷ xs) e = by (x == p) refl (times-none p xs)
  where
    by : (b : Bool) → (x == p) ≡ b → (is_in xs p ≡ false → times p xs ≡ 0) → times p (x ∷ xs) ≡ 0
    by true k later = absurd (cc (sym e ∙ ap (λ b. b || is_in xs p) k))
    by false k later =
        let s = times-cons p x xs in
        let o : one_at p x ≡ 0 = ap (λ b. cond b 1 0) k in
        let l = later (sym (ap (λ b. b || is_in xs p) k) ∙ e) in
        omega arith

-- ---- how often a rank is among the followers of those that are left

abbrev pub total : (ℕ → List ℕ) → List ℕ → ℕ → ℕ
total followers left p = sum_by (λ u. times p (followers u)) left

module _ (followers : ℕ → List ℕ) where
  total-cons : (u : ℕ) (us : List ℕ) (p : ℕ) → total followers (u ∷ us) p ≡ times p (followers u) + total followers us p
  total-cons u us p = sum_by-cons (λ v. times p (followers v)) u us

  pub total-in : (u : ℕ) (us : List ℕ) (p : ℕ) → In u us → is_in (followers u) p ≡ true → 0 < total followers us p
  total-in u [] p h e = absurd h
  total-in u (v ∷ vs) p (inl k) e =
      let s = total-cons v vs p in
      let t = times-in p (followers v) (subst (λ w. is_in (followers w) p ≡ true) k e) in
      omega arith
  total-in u (v ∷ vs) p (inr h) e =
      let s = total-cons v vs p in
      let t = total-in u vs p h e in
      omega arith

  pub total-none : (us : List ℕ) (p : ℕ) → ((u : ℕ) → In u us → is_in (followers u) p ≡ false) → total followers us p ≡ 0
  total-none [] p h = refl
  total-none (u ∷ us) p h =
      let s = total-cons u us p in
      let t = times-none p (followers u) (h u (inl refl)) in
      let l = total-none us p (λ v k. h v (inr k)) in
      omega arith

  pub total-cut : (r : ℕ) (us : List ℕ) (h : In r us) (p : ℕ) → total followers us p ≡ total followers (cut r us h) p + times p (followers r)
  total-cut r [] h p = absurd h
  total-cut r (v ∷ vs) (inl e) p =
      let s = total-cons v vs p in
      let k : times p (followers v) ≡ times p (followers r) = ap (λ w. times p (followers w)) (sym e) in
      omega arith
  total-cut r (v ∷ vs) (inr h) p =
      let s = total-cons v vs p in
      let t = total-cons v (cut r vs h) p in
      let l = total-cut r vs h p in
      omega arith

  -- ---- what is left

  -- ranks that are left, how many of these each waits for, and which are ready: those that wait for none
  pub record IsWaiting (left : List ℕ) (awaited : ℕ → ℕ) (ready : ℕ → Bool) : Type 0 where
    pub distinct : Distinct left
    -- what follows a rank that is left is left
    pub closed : (u p : ℕ) → In u left → is_in (followers u) p ≡ true → In p left
    pub counted : (p : ℕ) → awaited p ≡ total followers left p
    pub free : (p : ℕ) → ready p ≡ true → In p left × (awaited p ≡ 0)
    pub waits : (p : ℕ) → In p left → awaited p ≡ 0 → ready p ≡ true

  is_true : (b : Bool) → (b ≡ false → ⊥) → b ≡ true
  is_true true h = refl
  is_true false h = absurd (h refl)

  is_false : (b : Bool) → (b ≡ true → ⊥) → b ≡ false
  is_false true h = absurd (h refl)
  is_false false h = refl

  module _ (left : List ℕ) (awaited : ℕ → ℕ) (ready : ℕ → Bool) (w : IsWaiting left awaited ready) where
    -- a rank that is ready follows none that is left
    pub ready-follows_none : (r u : ℕ) → ready r ≡ true → In u left → is_in (followers u) r ≡ false
    ready-follows_none r u here k = is_false _ (λ e.
        let t = total-in u left r k e in
        let c = w.counted r in
        let z : awaited r ≡ 0 = (w.free r here).1 in
        absurd (omega (arith, t, c, z)))

    -- and a rank that is left and follows none of these is ready
    pub ready-from : (p : ℕ) → In p left → ((u : ℕ) → In u left → is_in (followers u) p ≡ false) → ready p ≡ true
    ready-from p k h = w.waits p k (w.counted p ∙ total-none left p h)

    -- a rank that is ready is taken: its followers wait for one fewer
    module _ (r : ℕ) (here : ready r ≡ true) (mid later : ℕ → Bool) (fewer : ℕ → ℕ)
        (popped : (q : ℕ) → mid q ≡ cond (is_eq (nat_cmp r q)) false (ready q))
        (lowered : (p : ℕ) → fewer p ≡ awaited p - times p (followers r))
        (freed : (p : ℕ) → later p ≡ (mid p || (is_in (followers r) p && (fewer p == 0)))) where
      abbrev pub here-left : In r left
      here-left = (w.free r here).0

      abbrev pub rest : List ℕ
      rest = cut r left here-left

      side : (p : ℕ) → (p ≡ r → ⊥) → (p ≡ r) ⊎ In p rest → In p rest
      side p n (inl e) = absurd (n e)
      side p n (inr k) = k

      in_rest : (p : ℕ) → In p left → (p ≡ r → ⊥) → In p rest
      in_rest p k n = side p n (cut-cases r left here-left p k)

      not_r : (p : ℕ) → In p rest → p ≡ r → ⊥
      not_r p k e = cut-gone r left here-left w.distinct (subst (λ z. In z rest) e k)

      -- a follower of r is another rank that is left
      follower-rest : (p : ℕ) → is_in (followers r) p ≡ true → In p rest
      follower-rest p e = in_rest p (w.closed r p here-left e) (λ k. absurd (cc (sym (subst (λ z. is_in (followers r) z ≡ true) k e) ∙ ready-follows_none r r here here-left)))

      mid-parts : (p : ℕ) → mid p ≡ true → (ready p ≡ true) × (p ≡ r → ⊥)
      mid-parts p e = by (is_eq (nat_cmp r p)) refl
        where
          by : (b : Bool) → is_eq (nat_cmp r p) ≡ b → (ready p ≡ true) × (p ≡ r → ⊥)
          by true f = absurd (cc (sym e ∙ popped p ∙ ap (λ b. cond b false (ready p)) f))
          by false f = (
            sym (ap (λ b. cond b false (ready p)) f) ∙ sym (popped p) ∙ e,
            λ g. absurd (cc (sym (subst (λ z. is_eq (nat_cmp r z) ≡ true) (sym g) (equal_from r)) ∙ f)),
          )

      mid-from : (p : ℕ) → ready p ≡ true → (p ≡ r → ⊥) → mid p ≡ true
      mid-from p e n = popped p ∙ ap (λ b. cond b false (ready p)) (is_false (is_eq (nat_cmp r p)) (λ f. n (sym (equal_to r p f)))) ∙ e

      both : (a b : Bool) → (a && b) ≡ true → (a ≡ true) × (b ≡ true)
      both true b e = (refl, e)
      both false b e = absurd (cc e)

      and_from : (a b : Bool) → a ≡ true → b ≡ true → (a && b) ≡ true
      and_from a b e k = λ i. e i && k i

      pub taken : IsWaiting rest fewer later
      taken = record {
        distinct = cut-distinct r left here-left w.distinct;
        closed = λ u p k e. in_rest p (w.closed u p (cut-within r left here-left u k) e) (λ g. absurd (cc (sym (subst (λ z. is_in (followers u) z ≡ true) g e) ∙ ready-follows_none r u here (cut-within r left here-left u k))));
        counted = λ p. counted p (total-cut r left here-left p) (w.counted p) (lowered p);
        free = λ p e. free p (or_cases (mid p) _ (sym (freed p) ∙ e));
        waits = λ p k z. waits p k z (is_in (followers r) p) refl;
      }
        where
          counted : (p : ℕ) → total followers left p ≡ total followers rest p + times p (followers r) → awaited p ≡ total followers left p → fewer p ≡ awaited p - times p (followers r) → fewer p ≡ total followers rest p
          counted p a b c = omega arith

          free : (p : ℕ) → (mid p ≡ true) ⊎ ((is_in (followers r) p && (fewer p == 0)) ≡ true) → In p rest × (fewer p ≡ 0)
          free p (inl e) =
              let m = mid-parts p e in
              let f = w.free p m.0 in
              (in_rest p f.0 m.1, none p f.1 (lowered p))
            where
              none : (p : ℕ) → awaited p ≡ 0 → fewer p ≡ awaited p - times p (followers r) → fewer p ≡ 0
              none p a b = omega arith
          free p (inr e) = let m = both _ _ e in (follower-rest p m.0, eqb-true (fewer p) 0 m.1)

          waits : (p : ℕ) → In p rest → fewer p ≡ 0 → (b : Bool) → is_in (followers r) p ≡ b → later p ≡ true
          waits p k z true e = freed p ∙ or_right (mid p) _ (and_from _ _ e (eq-eqb (fewer p) 0 z))
          waits p k z false e =
              freed p ∙ or_left (mid p) _ (mid-from p (w.waits p (cut-within r left here-left p k) (same p (times-none p (followers r) e) (lowered p) z)) (not_r p k))
            where
              same : (p : ℕ) → times p (followers r) ≡ 0 → fewer p ≡ awaited p - times p (followers r) → fewer p ≡ 0 → awaited p ≡ 0
              same p a b c = omega arith
