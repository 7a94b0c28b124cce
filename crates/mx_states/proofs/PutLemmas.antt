-- What is put at places of a tree, by the places below.
use Rattle.std.proofs.Common.{◌≡◌, ℕ, zero, suc, ◌+◌, ◌/◌, ◌%◌, ◌==◌, ◌&&◌, ◌<◌, ◌≤◌, length, ◌++◌, List, [], ◌∷◌, Bool, true, false, cond, map, Some, refl, sym, ap, subst, ◌∙◌, ◌⊎◌, inl, inr, arith, eqb-true}
use Rattle.std.specs.Prelude.{Option, nat_lt, unwrap_or}
use Rattle.std.specs.List.{All}
use Rattle.std.specs.FinMap.Entries.{find}
use Rattle.std.specs.Ordering.{is_eq, nat_cmp}
use Rattle.std.proofs.lemmas.Bool.{eqb-false}
use Rattle.mx_states.specs.declared.trees.key_trees.KeyTree.{KeyTree}
use Rattle.mx_states.specs.KeyTrees.{at, below, root, halved, AreLower, IsLonger}
use Rattle.mx_states.proofs.KeyTreeLemmas.{at-below, at-longer, at-one, below-lower, chosen-false, chosen-true, half-some, longer, new-below, new-first, within-more}
use Rattle.mx_states.proofs.SnapshotEntryLemmas.{cmp-above, cmp-below, cmp-same}

abbrev pub places_sum : List (ℕ × Option ℕ) → ℕ
places_sum [] = 0
places_sum (put ∷ puts) = put.0 + places_sum puts

-- ---- the measure

half-at-most : (r : ℕ) (put : ℕ × Option ℕ) (puts : List (ℕ × Option ℕ)) → places_sum (halved r puts) + places_sum (halved r puts) ≤ places_sum puts → places_sum (halved r (put ∷ puts)) + places_sum (halved r (put ∷ puts)) ≤ put.0 + places_sum puts
half-at-most r put puts h = by (nat_lt 1 put.0 && (put.0 % 2 == r)) refl
  where
    by : (b : Bool) → (nat_lt 1 put.0 && (put.0 % 2 == r)) ≡ b → places_sum (halved r (put ∷ puts)) + places_sum (halved r (put ∷ puts)) ≤ put.0 + places_sum puts
    by true e =
        let is : places_sum (halved r (put ∷ puts)) ≡ put.0 / 2 + places_sum (halved r puts) = ap places_sum (chosen-true (nat_lt 1 put.0 && (put.0 % 2 == r)) _ _ e) in
        omega arith
    by false e =
        let is : places_sum (halved r (put ∷ puts)) ≡ places_sum (halved r puts) = ap places_sum (chosen-false (nat_lt 1 put.0 && (put.0 % 2 == r)) _ _ e) in
        omega arith

halves-sum : (r : ℕ) (puts : List (ℕ × Option ℕ)) → places_sum (halved r puts) + places_sum (halved r puts) ≤ places_sum puts
halves-sum r [] = omega arith
halves-sum r (put ∷ puts) = half-at-most r put puts (halves-sum r puts)

pub halved-smaller : (r : ℕ) (puts : List (ℕ × Option ℕ)) → All (λ put. 1 ≤ put.0) puts → (length puts == 0) ≡ false → places_sum (halved r puts) < places_sum puts
halved-smaller r [] h e = absurd (let apart = eqb-false 0 0 e in apart refl)
halved-smaller r (put ∷ puts) h e = let some : 1 ≤ put.0 = h zero put (omega arith) in let half = halves-sum r (put ∷ puts) in omega arith

-- ---- all places are from 1

pub halved-places : (r : ℕ) (puts : List (ℕ × Option ℕ)) → All (λ put. 1 ≤ put.0) (halved r puts)
halved-places r [] = λ i d l. absurd (omega arith)
halved-places r (put ∷ puts) = by (nat_lt 1 put.0) refl (put.0 % 2 == r) (halved-places r puts)
  where
    more : (l : 1 < put.0) → All (λ p. 1 ≤ p.0) (halved r puts) → All (λ p. 1 ≤ p.0) ((put.0 / 2, put.1) ∷ halved r puts)
    more l h zero d k = omega arith
    more l h (suc i) d k = h i d (omega arith)

    by : (a : Bool) → nat_lt 1 put.0 ≡ a → (b : Bool) → All (λ p. 1 ≤ p.0) (halved r puts) → All (λ p. 1 ≤ p.0) (cond (a && b) ((put.0 / 2, put.1) ∷ halved r puts) (halved r puts))
    by true e true h = more (lt-from put.0 e) h
      where
        lt-from : (n : ℕ) → nat_lt 1 n ≡ true → 1 < n
        lt-from n e = grind arith
    by true e false h = h
    by false e b h = h

-- ---- what is put at a place is put at its half, below

find-same : (q : ℕ) (put : ℕ × Option ℕ) (puts : List (ℕ × Option ℕ)) → q ≡ put.0 → find nat_cmp q (put ∷ puts) ≡ Some put.1
find-same q put puts e = ap (λ r. cond (is_eq r) (Some put.1) (find nat_cmp q puts)) (cmp-same q put.0 e)

find-other : (q : ℕ) (put : ℕ × Option ℕ) (puts : List (ℕ × Option ℕ)) → (q ≡ put.0 → ⊥) → find nat_cmp q (put ∷ puts) ≡ find nat_cmp q puts
find-other q put puts h = by (cases q put.0)
  where
    cases : (a b : ℕ) → (a < b) ⊎ ((a ≡ b) ⊎ (b < a))
    cases a b = grind arith

    by : (q < put.0) ⊎ ((q ≡ put.0) ⊎ (put.0 < q)) → find nat_cmp q (put ∷ puts) ≡ find nat_cmp q puts
    by (inl l) = ap (λ r. cond (is_eq r) (Some put.1) (find nat_cmp q puts)) (cmp-below q put.0 l)
    by (inr (inl e)) = absurd (h e)
    by (inr (inr l)) = ap (λ r. cond (is_eq r) (Some put.1) (find nat_cmp q puts)) (cmp-above q put.0 l)

both-true : (n r : ℕ) → 1 < n → n % 2 ≡ r → (nat_lt 1 n && (n % 2 == r)) ≡ true
both-true n r l e = grind arith

one-false : (n r : ℕ) → (1 < n → n % 2 ≡ r → ⊥) → (nat_lt 1 n && (n % 2 == r)) ≡ false
one-false n r h = by (nat_lt 1 n) refl (n % 2 == r) refl
  where
    lt-from : (n : ℕ) → nat_lt 1 n ≡ true → 1 < n
    lt-from n e = grind arith

    by : (a : Bool) → nat_lt 1 n ≡ a → (b : Bool) → (n % 2 == r) ≡ b → (a && b) ≡ false
    by true e true f = absurd (h (lt-from n e) (eqb-true (n % 2) r f))
    by true e false f = refl
    by false e b f = refl

pub find-halved : (r n : ℕ) (puts : List (ℕ × Option ℕ)) → 1 < n → n % 2 ≡ r → find nat_cmp (n / 2) (halved r puts) ≡ find nat_cmp n puts
find-halved r n [] l e = refl
find-halved r n (put ∷ puts) l e = by (same n put.0) (cases put.0) (find-halved r n puts l e)
  where
    same : (a b : ℕ) → (a ≡ b) ⊎ (a ≡ b → ⊥)
    same a b = by-test (a == b) refl
      where
        by-test : (t : Bool) → (a == b) ≡ t → (a ≡ b) ⊎ (a ≡ b → ⊥)
        by-test true k = inl (eqb-true a b k)
        by-test false k = inr (eqb-false a b k)

    cases : (p : ℕ) → ((1 < p) × (p % 2 ≡ r)) ⊎ ((1 < p) → p % 2 ≡ r → ⊥)
    cases p = both (nat_lt 1 p) refl (p % 2 == r) refl
      where
        lt-from : (n : ℕ) → nat_lt 1 n ≡ true → 1 < n
        lt-from n e = grind arith

        not-lt : (n : ℕ) → nat_lt 1 n ≡ false → 1 < n → ⊥
        not-lt n e l = grind arith

        both : (a : Bool) → nat_lt 1 p ≡ a → (b : Bool) → (p % 2 == r) ≡ b → ((1 < p) × (p % 2 ≡ r)) ⊎ ((1 < p) → p % 2 ≡ r → ⊥)
        both true f true g = inl (lt-from p f, eqb-true (p % 2) r g)
        both true f false g = inr (λ k m. eqb-false (p % 2) r g m)
        both false f b g = inr (λ k m. not-lt p f k)

    kept : (1 < put.0) × (put.0 % 2 ≡ r) → halved r (put ∷ puts) ≡ (put.0 / 2, put.1) ∷ halved r puts
    kept h = chosen-true (nat_lt 1 put.0 && (put.0 % 2 == r)) _ _ (both-true put.0 r h.0 h.1)

    by : (n ≡ put.0) ⊎ (n ≡ put.0 → ⊥) → ((1 < put.0) × (put.0 % 2 ≡ r)) ⊎ ((1 < put.0) → put.0 % 2 ≡ r → ⊥) → find nat_cmp (n / 2) (halved r puts) ≡ find nat_cmp n puts → find nat_cmp (n / 2) (halved r (put ∷ puts)) ≡ find nat_cmp n (put ∷ puts)
    by (inl is) (inl h) rest = ap (find nat_cmp (n / 2)) (kept h) ∙ find-same (n / 2) (put.0 / 2, put.1) (halved r puts) (ap (λ k. k / 2) is) ∙ sym (find-same n put puts is)
    by (inl is) (inr h) rest = absurd (h (omega arith) (ap (λ k. k % 2) (sym is) ∙ e))
    by (inr apart) (inl h) rest =
        ap (find nat_cmp (n / 2)) (kept h) ∙ find-other (n / 2) (put.0 / 2, put.1) (halved r puts) (λ k. apart (whole n put.0 (e ∙ sym h.1) k)) ∙ rest ∙ sym (find-other n put puts apart)
      where
        whole : (a b : ℕ) → a % 2 ≡ b % 2 → a / 2 ≡ b / 2 → a ≡ b
        whole a b h k = omega arith
    by (inr apart) (inr h) rest =
        ap (find nat_cmp (n / 2)) (chosen-false (nat_lt 1 put.0 && (put.0 % 2 == r)) _ _ (one-false put.0 r h)) ∙ rest ∙ sym (find-other n put puts apart)

-- ---- a tree made of what is put below

pub put-parts : (trees evens odds : List KeyTree) (tree even odd : ℕ) (puts : List (ℕ × Option ℕ)) (changed : KeyTree) → AreLower trees → tree ≤ length trees → AreLower evens → IsLonger trees evens → even ≤ length evens → AreLower odds → IsLonger evens odds → odd ≤ length odds
    → changed.event ≡ unwrap_or (find nat_cmp 1 puts) (root trees tree).event → changed.even ≡ even → changed.odd ≡ odd
    → ((n : ℕ) → 1 ≤ n → at evens even n ≡ unwrap_or (find nat_cmp n (halved 0 puts)) (at trees (root trees tree).even n))
    → ((n : ℕ) → 1 ≤ n → at odds odd n ≡ unwrap_or (find nat_cmp n (halved 1 puts)) (at evens (root trees tree).odd n))
    → (n : ℕ) → 1 ≤ n → at (odds ++ changed ∷ []) (length odds + 1) n ≡ unwrap_or (find nat_cmp n puts) (at trees tree n)
put-parts trees evens odds tree even odd puts changed lower l lower-evens longer-evens even-in lower-odds longer-odds odd-in is even-is odd-is put-even put-odd n some = by (n == 1) refl
  where
    below-even : n % 2 ≡ 0 → (t : KeyTree) → below t n ≡ t.even
    below-even e t = chosen-true (n % 2 == 0) _ _ (test (n % 2) e)
      where
        test : (m : ℕ) → m ≡ 0 → (m == 0) ≡ true
        test m k = grind arith

    below-odd : n % 2 ≡ 1 → (t : KeyTree) → below t n ≡ t.odd
    below-odd e t = chosen-false (n % 2 == 0) _ _ (test (n % 2) e)
      where
        test : (m : ℕ) → m ≡ 1 → (m == 0) ≡ false
        test m k = grind arith

    parity : (m : ℕ) → (m % 2 ≡ 0) ⊎ (m % 2 ≡ 1)
    parity m = grind arith

    above : (n == 1) ≡ false → 1 < n
    above e = let apart = eqb-false n 1 e in omega arith

    reached : (n == 1) ≡ false → (n % 2 ≡ 0) ⊎ (n % 2 ≡ 1) → at (odds ++ changed ∷ []) (below changed n) (n / 2) ≡ unwrap_or (find nat_cmp n puts) (at trees tree n)
    reached e (inl r) =
        ap (λ t. at (odds ++ changed ∷ []) t (n / 2)) (below-even r changed ∙ even-is)
        ∙ within-more (n / 2) odds (changed ∷ []) even (n / 2) lower-odds (omega (arith, even-in, longer evens odds longer-odds))
        ∙ at-longer evens odds even (n / 2) lower-evens even-in longer-odds
        ∙ put-even (n / 2) (half-some n some e)
        ∙ ap (λ o. unwrap_or o (at trees (root trees tree).even (n / 2))) (find-halved 0 n puts (above e) r)
        ∙ ap (unwrap_or (find nat_cmp n puts)) (ap (λ t. at trees t (n / 2)) (sym (below-even r (root trees tree))) ∙ sym (at-below trees tree n some e))
    reached e (inr r) =
        let under : (root trees tree).odd ≤ length trees = subst (λ t. t ≤ length trees) (below-odd r (root trees tree)) (below-lower trees tree n lower l) in
        ap (λ t. at (odds ++ changed ∷ []) t (n / 2)) (below-odd r changed ∙ odd-is)
        ∙ within-more (n / 2) odds (changed ∷ []) odd (n / 2) lower-odds odd-in
        ∙ put-odd (n / 2) (half-some n some e)
        ∙ ap (λ o. unwrap_or o (at evens (root trees tree).odd (n / 2))) (find-halved 1 n puts (above e) r)
        ∙ ap (unwrap_or (find nat_cmp n puts)) (at-longer trees evens (root trees tree).odd (n / 2) lower under longer-evens ∙ ap (λ t. at trees t (n / 2)) (sym (below-odd r (root trees tree))) ∙ sym (at-below trees tree n some e))

    by : (b : Bool) → (n == 1) ≡ b → at (odds ++ changed ∷ []) (length odds + 1) n ≡ unwrap_or (find nat_cmp n puts) (at trees tree n)
    by true e =
        let one : n ≡ 1 = eqb-true n 1 e in
        new-first odds changed n e ∙ is ∙ ap (λ m. unwrap_or (find nat_cmp m puts) (root trees tree).event) (sym one) ∙ ap (unwrap_or (find nat_cmp n puts)) (sym (at-one trees tree n e))
    by false e = new-below odds changed n some e ∙ reached e (parity n)

-- ---- changes as what is put at places

pub puts-places : (cs : List (ℕ × Option ℕ)) → All (λ (put : ℕ × Option ℕ). 1 ≤ put.0) (map (λ (c : ℕ × Option ℕ). (c.0 + 1, c.1)) cs)
puts-places [] = λ i d l. absurd (omega arith)
puts-places (c ∷ cs) = by (puts-places cs)
  where
    by : All (λ (put : ℕ × Option ℕ). 1 ≤ put.0) (map (λ (c : ℕ × Option ℕ). (c.0 + 1, c.1)) cs) → All (λ (put : ℕ × Option ℕ). 1 ≤ put.0) (map (λ (c : ℕ × Option ℕ). (c.0 + 1, c.1)) (c ∷ cs))
    by h zero d l = omega arith
    by h (suc i) d l = h i d (omega arith)

pub find-puts : (q : ℕ) (cs : List (ℕ × Option ℕ)) → find nat_cmp (q + 1) (map (λ (c : ℕ × Option ℕ). (c.0 + 1, c.1)) cs) ≡ find nat_cmp q cs
find-puts q [] = refl
find-puts q (c ∷ cs) = by (q == c.0) refl (find-puts q cs)
  where
    by : (b : Bool) → (q == c.0) ≡ b → find nat_cmp (q + 1) (map (λ (c : ℕ × Option ℕ). (c.0 + 1, c.1)) cs) ≡ find nat_cmp q cs → find nat_cmp (q + 1) (map (λ (c : ℕ × Option ℕ). (c.0 + 1, c.1)) (c ∷ cs)) ≡ find nat_cmp q (c ∷ cs)
    by true e rest = find-same (q + 1) (c.0 + 1, c.1) _ (ap (λ k. k + 1) (eqb-true q c.0 e)) ∙ sym (find-same q c cs (eqb-true q c.0 e))
    by false e rest = find-other (q + 1) (c.0 + 1, c.1) _ (λ k. eqb-false q c.0 e (omega arith)) ∙ rest ∙ sym (find-other q c cs (eqb-false q c.0 e))
