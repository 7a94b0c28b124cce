-- The walk over rows with sets of states, from the last row down: its beginning, a step, and its end.
use Rattle.std.proofs.Common.{◌≡◌, ℕ, ◌+◌, ◌-◌, ◌^◌, ◌==◌, ◌≤◌, ◌<◌, nat_lt, Bool, true, false, ◌&&◌, ◌||◌, ◌⊎◌, inl, inr, List, [], ◌∷◌, ◌++◌, length, get_or, refl, sym, ap, subst, ◌∙◌, arith, eqb-true}
use Rattle.std.proofs.lemmas.List.{get_or_append_left, get_or_past, get_or-append_right, length-append}
use Rattle.mx_graph.specs.Record.{is_in}
use Rattle.mx_graph.specs.Edges.{LeadDown, Rises}
use Rattle.mx_graph.proofs.Closure.{or_cases, or_left, or_right}
use Rattle.mx_state_res.specs.Masks.{IsApart}
use Rattle.mx_state_res.specs.RowSets.{has_state, is_reached, is_partial, AreCounted}
use Rattle.mx_state_res.proofs.TestLemmas.{and-first, and-second, and-make, lt-from, lt-to, order}
use Rattle.mx_state_res.proofs.DifferenceWalk.{IsReached, IsFound, reached-goes, reached-above, mask-exact, same-below, found-goes, found-stays}
use Rattle.mx_state_res.proofs.StateSetLemmas.{has-none, partial-apart, settled-not_apart, settled-has}
use Rattle.mx_state_res.proofs.WalkStepLemmas.{AreAllFrom}

-- the rows down to their end: what was found from there on, and what is reached below
pub record IsRowWalk (cites : ℕ → List ℕ) (states : ℕ) (first : ℕ → ℕ → Bool) (sets found : List ℕ) : Type 0 where
  pub rises : Rises found
  pub above : (p : ℕ) → is_in found p ≡ true → length sets ≤ p
  pub reached : (reach : ℕ → ℕ → Bool) → AreAllFrom cites states first reach → IsReached cites states (length sets) (λ i p. first p i) reach (is_reached sets)
  pub is_found : (reach : ℕ → ℕ → Bool) → AreAllFrom cites states first reach → IsFound states (length sets) reach found

-- no state reaches what is past the rows
reached-in : (sets : List ℕ) (p i : ℕ) → is_reached sets p i ≡ true → p < length sets
reached-in sets p i e = by (order (length sets) p)
  where
    by : (length sets ≤ p) ⊎ (p < length sets) → p < length sets
    by (inl l) = absurd (cc (sym (has-none i) ∙ ap (λ n. has_state n i) (sym (get_or_past sets p 0 l)) ∙ e))
    by (inr l) = l

pub rows-begin : (cites : ℕ → List ℕ) → LeadDown cites → (states : ℕ) (sets : List ℕ) → IsRowWalk cites states (is_reached sets) sets []
rows-begin cites down states sets =
    record {
      rises = tt;
      above = λ p e. absurd (cc e);
      reached = λ reach all. record {
        sound = λ p i l e. (all i l).has_first p e;
        first_waits = λ p i l e m. e;
        cited_waits = λ x y i l h r c m. let k : x < length sets = inside reach all i l x r in absurd (omega arith);
      };
      is_found = λ reach all. record {
        has_apart = λ p h a. let k : p < length sets = inside reach all a.in_some.0 a.in_some.1 p a.in_some.2 in absurd (omega arith);
        is_apart = λ p e. absurd (cc e);
      };
    }
  where
    inside : (reach : ℕ → ℕ → Bool) → AreAllFrom cites states (is_reached sets) reach → (i : ℕ) → i < states → (x : ℕ) → reach i x ≡ true → x < length sets
    inside reach all i l x r =
        lt-from x (length sets) ((all i l).least (λ z. nat_lt z (length sets)) (λ p e. lt-to p (length sets) (reached-in sets p i e))
        (λ a b e c. let u : a < length sets = lt-from a (length sets) e in let v : b < a = down a b c in lt-to b (length sets) (omega arith)) x r)

-- ---- the last row is taken

pub last-fits : (states all : ℕ) (old mid : List ℕ) (unsettled m : ℕ) → AreCounted states all old unsettled → old ≡ mid ++ m ∷ [] → m < 2 ^ states
last-fits states all old mid unsettled m kept taken = subst (λ n. n < 2 ^ states) last (kept.fit (length mid))
  where
    last : get_or old (length mid) 0 ≡ m
    last = ap (λ xs. get_or xs (length mid) 0) taken ∙ get_or-append_right mid (m ∷ []) (length mid) (length mid) 0 refl (omega arith) ∙ ap (λ k. get_or (m ∷ []) k 0) (let z : length mid - length mid ≡ 0 = omega arith in z)

module _ (cites : ℕ → List ℕ) (down : LeadDown cites) (states : ℕ) (first : ℕ → ℕ → Bool) (old mid new found : List ℕ) (m : ℕ) (fits : m < 2 ^ states) (walk : IsRowWalk cites states first old found)
    (taken : old ≡ mid ++ m ∷ []) (long : length new ≡ length mid) (marked : (p i : ℕ) → is_reached new p i ≡ (is_reached mid p i || (is_in (cites (length mid)) p && has_state m i))) where
  abbrev t : ℕ
  t = length mid

  level : length old ≡ t + 1
  level = ap length taken ∙ length-append mid (m ∷ [])

  here : (i : ℕ) → is_reached old t i ≡ has_state m i
  here i = ap (λ xs. is_reached xs t i) taken ∙ ap (λ n. has_state n i) (get_or-append_right mid (m ∷ []) t t 0 refl (omega arith) ∙ ap (λ k. get_or (m ∷ []) k 0) (let z : t - t ≡ 0 = omega arith in z))

  left : (p i : ℕ) → p < t → is_reached old p i ≡ is_reached mid p i
  left p i l = ap (λ xs. is_reached xs p i) taken ∙ ap (λ n. has_state n i) (get_or_append_left mid (m ∷ []) 0 p l)

  top : (q i : ℕ) → is_reached old q i ≡ true → q ≤ t
  top q i e = let l : q < length old = reached-in old q i e in let k = level in omega arith

  below : t < length old
  below = let k = level in omega arith

  new_parts : (q i : ℕ) → is_reached new q i ≡ true → (is_reached old q i ≡ true) ⊎ ((is_in (cites t) q ≡ true) × (is_reached old t i ≡ true))
  new_parts q i e = by (or_cases (is_reached mid q i) _ (sym (marked q i) ∙ e))
    where
      by : (is_reached mid q i ≡ true) ⊎ ((is_in (cites t) q && has_state m i) ≡ true) → (is_reached old q i ≡ true) ⊎ ((is_in (cites t) q ≡ true) × (is_reached old t i ≡ true))
      by (inl f) = inl (left q i (reached-in mid q i f) ∙ f)
      by (inr f) = inr (and-first (is_in (cites t) q) _ f, here i ∙ and-second (is_in (cites t) q) _ f)

  new_old : (q i : ℕ) → is_reached old q i ≡ true → q < t → is_reached new q i ≡ true
  new_old q i e l = marked q i ∙ or_left (is_reached mid q i) _ (sym (left q i l) ∙ e)

  new_cited : (q i : ℕ) → is_in (cites t) q ≡ true → is_reached old t i ≡ true → is_reached new q i ≡ true
  new_cited q i e f = marked q i ∙ or_right (is_reached mid q i) _ (and-make (is_in (cites t) q) (has_state m i) e (sym (here i) ∙ f))

  module _ (reach : ℕ → ℕ → Bool) (all : AreAllFrom cites states first reach) where
    step_reached : IsReached cites states (length new) (λ i p. first p i) reach (is_reached new)
    step_reached = subst (λ n. IsReached cites states n (λ i p. first p i) reach (is_reached new)) (sym long)
        (reached-goes cites down states (length old) (λ i p. first p i) reach (is_reached old) all (walk.reached reach all) t top below (is_reached new) new_parts new_old new_cited)

    step_above : (i x : ℕ) → i < states → reach i x ≡ true → t ≤ x → (length old ≤ x) ⊎ (x ≡ t)
    step_above = reached-above cites down states (length old) (λ i p. first p i) reach (is_reached old) all (walk.reached reach all) t top below (is_reached new) new_parts new_old new_cited

    exact : (i : ℕ) → i < states → reach i t ≡ true → has_state m i ≡ true
    exact i l r = sym (here i) ∙ mask-exact cites down states (length old) (λ i p. first p i) reach (is_reached old) all (walk.reached reach all) t top below (is_reached new) new_parts new_old new_cited i l r

    right : (i : ℕ) → i < states → has_state m i ≡ true → reach i t ≡ true
    right i l e = (walk.reached reach all).sound t i l (here i ∙ e)

    put_found : is_partial (2 ^ states - 1) m ≡ true → IsFound states (length new) reach (t ∷ found)
    put_found e = subst (λ n. IsFound states n reach (t ∷ found)) (sym long) (found-goes states (length old) t reach found (walk.is_found reach all) step_above (partial-apart states reach t m fits right exact e))

    same_found : is_partial (2 ^ states - 1) m ≡ false → IsFound states (length new) reach found
    same_found e = subst (λ n. IsFound states n reach found) (sym long) (found-stays states (length old) t reach found (walk.is_found reach all) step_above (settled-not_apart states reach t m fits right exact e))

  pub rows-put : is_partial (2 ^ states - 1) m ≡ true → IsRowWalk cites states first new (t ∷ found)
  rows-put e =
      record {
        rises = (λ y k. let h : length old ≤ y = walk.above y k in let l = level in omega arith, walk.rises);
        above = λ p k. from p (or_cases (t == p) (is_in found p) k);
        reached = step_reached;
        is_found = λ reach all. put_found reach all e;
      }
    where
      from : (p : ℕ) → ((t == p) ≡ true) ⊎ (is_in found p ≡ true) → length new ≤ p
      from p (inl f) = let g : t ≡ p = eqb-true t p f in omega (arith, long)
      from p (inr f) = let h : length old ≤ p = walk.above p f in omega (arith, long, level)

  pub rows-pass : is_partial (2 ^ states - 1) m ≡ false → IsRowWalk cites states first new found
  rows-pass e =
      record {
        rises = walk.rises;
        above = λ p k. let h : length old ≤ p = walk.above p k in omega (arith, long, level);
        reached = step_reached;
        is_found = λ reach all. same_found reach all e;
      }

-- where each row that is left is reached by all states or by none, what was found is all
pub rows-end : (cites : ℕ → List ℕ) → LeadDown cites → (states : ℕ) (first : ℕ → ℕ → Bool) (sets found : List ℕ) → IsRowWalk cites states first sets found → ((p : ℕ) → is_partial (2 ^ states - 1) (get_or sets p 0) ≡ false)
    → (reach : ℕ → ℕ → Bool) → AreAllFrom cites states first reach → (p : ℕ) → ((is_in found p ≡ true) → IsApart states reach p) × (IsApart states reach p → is_in found p ≡ true)
rows-end cites down states first sets found walk settled reach all p = ((walk.is_found reach all).is_apart p, λ a. by a (order (length sets) p))
  where
    common : (q i j : ℕ) → j < states → is_reached sets q i ≡ true → is_reached sets q j ≡ true
    common q i j l e = settled-has states (get_or sets q 0) i j (settled q) l e

    by : IsApart states reach p → (length sets ≤ p) ⊎ (p < length sets) → is_in found p ≡ true
    by a (inl l) = (walk.is_found reach all).has_apart p l a
    by a (inr l) =
        absurd (cc (sym a.not_in_all.2
        ∙ same-below cites down states (length sets) (λ i p. first p i) reach (is_reached sets) all (walk.reached reach all) common a.in_some.0 a.not_in_all.0 p a.in_some.1 a.not_in_all.1 a.in_some.2 l))
