-- The walk with masks: its beginning, a step, and its end.
use Rattle.std.proofs.Common.{◌≡◌, ℕ, ◌==◌, ◌≤◌, ◌<◌, nat_lt, Bool, true, false, not, cond, ◌&&◌, ◌||◌, ◌⊎◌, inl, inr, List, [], ◌∷◌, length, None, is_some, refl, sym, ap, ◌∙◌, arith, eqb-true}
use Rattle.std.proofs.lemmas.Bool.{eqb-false}
use Rattle.std.proofs.lemmas.Map.Made.{is_some-lookup}
use Rattle.std.specs.Map.{keys_of}
use Rattle.std.specs.List.{list_all, list_any}
use Rattle.std.specs.Ordering.{nat_cmp, is_eq}
use Rattle.std.specs.BTreeMap.{get}
use Rattle.mx_graph.specs.Record.{is_in}
use Rattle.mx_graph.specs.Edges.{LeadDown, Rises, IsAllFrom}
use Rattle.mx_graph.proofs.Closure.{or_cases, or_left, or_right}
use Rattle.mx_graph.proofs.WalkLemmas.{above, above-member, above-bound}
use Rattle.mx_state_res.specs.Masks.{Masks, has, mask_in, waits, is_cited_by, is_due, is_there, AreLow, AreSettled, IsTaken, IsApart}
use Rattle.mx_state_res.proofs.TestLemmas.{and-first, and-second, and-make, or-false, lt-from, lt-to, order, unequal}
use Rattle.mx_state_res.proofs.CitedLemmas.{cited-to}
use Rattle.mx_state_res.proofs.MaskLemmas.{waits-there}
use Rattle.mx_state_res.proofs.DifferenceWalk.{IsReached, IsFound, reached-goes, reached-above, mask-exact, same-below, found-goes, found-stays, differs-apart, same-not_apart}

-- one above the greatest row that waits
abbrev pub height : Masks → ℕ
height masks = above (keys_of masks.entries)

keys-there : (masks : Masks) (p : ℕ) → is_there masks p ≡ list_any (λ k. is_eq (nat_cmp p k)) (keys_of masks.entries)
keys-there masks p = is_some-lookup (λ k. is_eq (nat_cmp p k)) masks.entries

pub height-bound : (masks : Masks) (t : ℕ) → ((p : ℕ) → is_there masks p ≡ true → p < t) → height masks ≤ t
height-bound masks t h = above-bound t (keys_of masks.entries) (λ q e. h q (keys-there masks q ∙ e))

pub height-there : (masks : Masks) (t : ℕ) → is_there masks t ≡ true → t < height masks
height-there masks t e = above-member t (keys_of masks.entries) (sym (keys-there masks t) ∙ e)

-- sets, one for each state, of what is first in it and what that leads to
abbrev pub AreAllFrom : (ℕ → List ℕ) → ℕ → (ℕ → ℕ → Bool) → (ℕ → ℕ → Bool) → Type 0
AreAllFrom cites states first reach = (i : ℕ) → i < states → IsAllFrom cites (λ p. first p i) (reach i)

pub record IsWalk (cites : ℕ → List ℕ) (states : ℕ) (first : ℕ → ℕ → Bool) (masks : Masks) (starts found : List ℕ) : Type 0 where
  pub level : ℕ
  pub below : (p : ℕ) → is_there masks p ≡ true → p < level
  pub starts_below : (s : ℕ) → is_in starts s ≡ true → s ≤ level
  pub rises : Rises found
  pub above_level : (p : ℕ) → is_in found p ≡ true → level ≤ p
  pub reached : (reach : ℕ → ℕ → Bool) → AreAllFrom cites states first reach → IsReached cites states level (λ i p. first p i) reach (is_due cites masks starts)
  pub is_found : (reach : ℕ → ℕ → Bool) → AreAllFrom cites states first reach → IsFound states level reach found

-- what is due is below the rows that wait and the starts
due-below : (cites : ℕ → List ℕ) → LeadDown cites → (masks : Masks) (starts : List ℕ) (n : ℕ) → ((p : ℕ) → is_there masks p ≡ true → p < n) → ((s : ℕ) → is_in starts s ≡ true → s ≤ n) → (p i : ℕ) → is_due cites masks starts p i ≡ true → p < n
due-below cites down masks starts n known low p i e = by (or_cases (waits masks p i) _ e)
  where
    by : (waits masks p i ≡ true) ⊎ (is_cited_by cites starts p ≡ true) → p < n
    by (inl f) = known p (waits-there masks p i f)
    by (inr f) =
        let r = cited-to cites starts p f in
        let l : r.0 ≤ n = low r.0 r.1 in
        let m : p < r.0 = down r.0 p r.2 in
        omega arith

pub walk-begins : (cites : ℕ → List ℕ) → LeadDown cites → (states : ℕ) (masks : Masks) (starts : List ℕ) (n : ℕ) → ((p : ℕ) → is_there masks p ≡ true → p < n) → ((s : ℕ) → is_in starts s ≡ true → s < n) → IsWalk cites states (is_due cites masks starts) masks starts []
walk-begins cites down states masks starts n known low =
    record {
      level = n;
      below = known;
      starts_below = starts_low;
      rises = tt;
      above_level = λ p e. absurd (cc e);
      reached = λ reach all. record {
        sound = λ p i l e. (all i l).has_first p e;
        first_waits = λ p i l e m. e;
        cited_waits = λ x y i l h r c m. let k : x < n = inside reach all i l x r in absurd (omega arith);
      };
      is_found = λ reach all. record {
        has_apart = λ p h a. let k : p < n = inside reach all a.in_some.0 a.in_some.1 p a.in_some.2 in absurd (omega arith);
        is_apart = λ p e. absurd (cc e);
      };
    }
  where
    starts_low : (s : ℕ) → is_in starts s ≡ true → s ≤ n
    starts_low s m = let l : s < n = low s m in omega arith

    inside : (reach : ℕ → ℕ → Bool) → AreAllFrom cites states (is_due cites masks starts) reach → (i : ℕ) → i < states → (x : ℕ) → reach i x ≡ true → x < n
    inside reach all i l x r =
        lt-from x n ((all i l).least (λ z. nat_lt z n) (λ p e. lt-to p n (due-below cites down masks starts n known starts_low p i e))
        (λ a b e c. let u : a < n = lt-from a n e in let v : b < a = down a b c in lt-to b n (omega arith)) x r)

-- ---- starts are taken

module _ (cites : ℕ → List ℕ) (down : LeadDown cites) (states : ℕ) (masks new : Masks) (starts fewer : List ℕ)
    (there : (p : ℕ) → (is_there new p || is_cited_by cites fewer p) ≡ (is_there masks p || is_cited_by cites starts p)) where
  pub starts-there : (n : ℕ) → ((p : ℕ) → is_there masks p ≡ true → p < n) → ((s : ℕ) → is_in starts s ≡ true → s ≤ n) → (p : ℕ) → is_there new p ≡ true → p < n
  starts-there n known low p e = by (or_cases (is_there masks p) _ (sym (there p) ∙ or_left (is_there new p) _ e))
    where
      by : (is_there masks p ≡ true) ⊎ (is_cited_by cites starts p ≡ true) → p < n
      by (inl f) = known p f
      by (inr f) =
          let r = cited-to cites starts p f in
          let l : r.0 ≤ n = low r.0 r.1 in
          let m : p < r.0 = down r.0 p r.2 in
          omega arith

  pub walk-starts : (first : ℕ → ℕ → Bool) (found : List ℕ) → IsWalk cites states first masks starts found → ((s : ℕ) → is_in fewer s ≡ true → is_in starts s ≡ true)
      → ((p i : ℕ) → i < states → is_due cites new fewer p i ≡ is_due cites masks starts p i) → IsWalk cites states first new fewer found
  walk-starts first found walk part same =
      record {
        level = walk.level;
        below = starts-there walk.level walk.below walk.starts_below;
        starts_below = λ s m. walk.starts_below s (part s m);
        rises = walk.rises;
        above_level = walk.above_level;
        reached = λ reach all. record {
          sound = λ p i l e. (walk.reached reach all).sound p i l (sym (same p i l) ∙ e);
          first_waits = λ p i l e m. same p i l ∙ (walk.reached reach all).first_waits p i l e m;
          cited_waits = λ x y i l h r c m. same y i l ∙ (walk.reached reach all).cited_waits x y i l h r c m;
        };
        is_found = walk.is_found;
      }

-- ---- a row is taken

-- no start is after a row that is taken where some are unsettled
pub starts-low : (old mid : Masks) (starts : List ℕ) (t : ℕ) (mask : List Bool) → IsTaken old mid t mask → (AreSettled old → ⊥) → AreLow old starts → (s : ℕ) → is_in starts s ≡ true → s ≤ t
starts-low old mid starts t mask taken some (inl settled) s m = absurd (some settled)
starts-low old mid starts t mask taken some (inr low) s m =
    let r = low s m in
    let l : s ≤ r.0 = r.2 in
    let k : r.0 ≤ t = taken.greatest r.0 r.1 in
    omega arith

module _ (cites : ℕ → List ℕ) (down : LeadDown cites) (states : ℕ) (first : ℕ → ℕ → Bool) (old mid new : Masks) (starts found : List ℕ) (t : ℕ) (mask : List Bool) (walk : IsWalk cites states first old starts found)
    (taken : IsTaken old mid t mask) (low : (s : ℕ) → is_in starts s ≡ true → s ≤ t) (wide : length mask ≡ states) (there : (p : ℕ) → is_there new p ≡ (is_there mid p || is_in (cites t) p))
    (marked : (p i : ℕ) → waits new p i ≡ (waits mid p i || (is_in (cites t) p && has mask i))) where
  -- what waited below t waits
  mid_below : (p : ℕ) → p < t → get nat_cmp mid p ≡ get nat_cmp old p
  mid_below p l = taken.others p ∙ ap (λ b. cond b None (get nat_cmp old p)) (unequal t p l)

  mid_parts : (p : ℕ) → is_there mid p ≡ true → (p < t) × (get nat_cmp mid p ≡ get nat_cmp old p)
  mid_parts p e = by (t == p) refl
    where
      by : (b : Bool) → (t == p) ≡ b → (p < t) × (get nat_cmp mid p ≡ get nat_cmp old p)
      by true f = absurd (cc (sym e ∙ ap is_some (taken.others p ∙ ap (λ b. cond b None (get nat_cmp old p)) f)))
      by false f =
          let same : get nat_cmp mid p ≡ get nat_cmp old p = taken.others p ∙ ap (λ b. cond b None (get nat_cmp old p)) f in
          let l : p ≤ t = taken.greatest p (sym (ap is_some same) ∙ e) in
          let apart = eqb-false t p f in
          (omega arith, same)

  cited_below : (q : ℕ) → is_cited_by cites starts q ≡ true → q < t
  cited_below q e =
      let r = cited-to cites starts q e in
      let l : r.0 ≤ t = low r.0 r.1 in
      let m : q < r.0 = down r.0 q r.2 in
      omega arith

  top : (q i : ℕ) → is_due cites old starts q i ≡ true → q ≤ t
  top q i e = by (or_cases (waits old q i) _ e)
    where
      by : (waits old q i ≡ true) ⊎ (is_cited_by cites starts q ≡ true) → q ≤ t
      by (inl f) = taken.greatest q (waits-there old q i f)
      by (inr f) = let l : q < t = cited_below q f in omega arith

  below : t < walk.level
  below = walk.below t taken.was_there

  not_cited : (b : Bool) → is_cited_by cites starts t ≡ b → is_cited_by cites starts t ≡ false
  not_cited true e = let l : t < t = cited_below t e in absurd (omega arith)
  not_cited false e = e

  mask_at : (i : ℕ) → is_due cites old starts t i ≡ has mask i
  mask_at i = or-false (waits old t i) _ (not_cited (is_cited_by cites starts t) refl) ∙ ap (λ m. has m i) taken.had

  pub step_below : (p : ℕ) → is_there new p ≡ true → p < t
  step_below p e = by (or_cases (is_there mid p) _ (sym (there p) ∙ e))
    where
      by : (is_there mid p ≡ true) ⊎ (is_in (cites t) p ≡ true) → p < t
      by (inl f) = (mid_parts p f).0
      by (inr f) = down t p f

  new_parts : (q i : ℕ) → is_due cites new starts q i ≡ true → (is_due cites old starts q i ≡ true) ⊎ ((is_in (cites t) q ≡ true) × (is_due cites old starts t i ≡ true))
  new_parts q i e = from (or_cases (waits new q i) _ e)
    where
      by : (waits mid q i ≡ true) ⊎ ((is_in (cites t) q && has mask i) ≡ true) → (is_due cites old starts q i ≡ true) ⊎ ((is_in (cites t) q ≡ true) × (is_due cites old starts t i ≡ true))
      by (inl f) = inl (or_left (waits old q i) _ (sym (ap (λ o. has (mask_in o) i) (mid_parts q (waits-there mid q i f)).1) ∙ f))
      by (inr f) = inr (and-first (is_in (cites t) q) _ f, mask_at i ∙ and-second (is_in (cites t) q) _ f)

      from : (waits new q i ≡ true) ⊎ (is_cited_by cites starts q ≡ true) → (is_due cites old starts q i ≡ true) ⊎ ((is_in (cites t) q ≡ true) × (is_due cites old starts t i ≡ true))
      from (inl f) = by (or_cases (waits mid q i) _ (sym (marked q i) ∙ f))
      from (inr f) = inl (or_right (waits old q i) _ f)

  new_old : (q i : ℕ) → is_due cites old starts q i ≡ true → q < t → is_due cites new starts q i ≡ true
  new_old q i e l = by (or_cases (waits old q i) _ e)
    where
      by : (waits old q i ≡ true) ⊎ (is_cited_by cites starts q ≡ true) → is_due cites new starts q i ≡ true
      by (inl f) = or_left (waits new q i) _ (marked q i ∙ or_left (waits mid q i) _ (ap (λ o. has (mask_in o) i) (mid_below q l) ∙ f))
      by (inr f) = or_right (waits new q i) _ f

  new_cited : (q i : ℕ) → is_in (cites t) q ≡ true → is_due cites old starts t i ≡ true → is_due cites new starts q i ≡ true
  new_cited q i e f = or_left (waits new q i) _ (marked q i ∙ or_right (waits mid q i) _ (and-make (is_in (cites t) q) (has mask i) e (sym (mask_at i) ∙ f)))

  module _ (reach : ℕ → ℕ → Bool) (all : AreAllFrom cites states first reach) where
    step_reached : IsReached cites states t (λ i p. first p i) reach (is_due cites new starts)
    step_reached = reached-goes cites down states walk.level (λ i p. first p i) reach (is_due cites old starts) all (walk.reached reach all) t top below (is_due cites new starts) new_parts new_old new_cited

    step_above : (i x : ℕ) → i < states → reach i x ≡ true → t ≤ x → (walk.level ≤ x) ⊎ (x ≡ t)
    step_above = reached-above cites down states walk.level (λ i p. first p i) reach (is_due cites old starts) all (walk.reached reach all) t top below (is_due cites new starts) new_parts new_old new_cited

    exact : (i : ℕ) → i < states → reach i t ≡ true → has mask i ≡ true
    exact i l r = sym (mask_at i) ∙ mask-exact cites down states walk.level (λ i p. first p i) reach (is_due cites old starts) all (walk.reached reach all) t top below (is_due cites new starts) new_parts new_old new_cited i l r

    right : (i : ℕ) → i < states → has mask i ≡ true → reach i t ≡ true
    right i l e = (walk.reached reach all).sound t i l (mask_at i ∙ e)

    put_found : (list_any (λ b. b) mask && not (list_all (λ b. b) mask)) ≡ true → IsFound states t reach (t ∷ found)
    put_found e = found-goes states walk.level t reach found (walk.is_found reach all) step_above (differs-apart states reach t mask wide right exact e)

    same_found : (list_any (λ b. b) mask && not (list_all (λ b. b) mask)) ≡ false → IsFound states t reach found
    same_found e = found-stays states walk.level t reach found (walk.is_found reach all) step_above (same-not_apart states reach t mask wide right exact e)

  pub walk-puts : (list_any (λ b. b) mask && not (list_all (λ b. b) mask)) ≡ true → IsWalk cites states first new starts (t ∷ found)
  walk-puts e =
      record {
        level = t;
        below = step_below;
        starts_below = low;
        rises = (λ y m. let h : walk.level ≤ y = walk.above_level y m in let k : t < walk.level = below in omega arith, walk.rises);
        above_level = λ p m. from p (or_cases (t == p) (is_in found p) m);
        reached = step_reached;
        is_found = λ reach all. put_found reach all e;
      }
    where
      from : (p : ℕ) → ((t == p) ≡ true) ⊎ (is_in found p ≡ true) → t ≤ p
      from p (inl f) = let g : t ≡ p = eqb-true t p f in omega arith
      from p (inr f) = let h : walk.level ≤ p = walk.above_level p f in let k : t < walk.level = below in omega arith

  pub walk-passes : (list_any (λ b. b) mask && not (list_all (λ b. b) mask)) ≡ false → IsWalk cites states first new starts found
  walk-passes e =
      record {
        level = t;
        below = step_below;
        starts_below = low;
        rises = walk.rises;
        above_level = λ p m. let h : walk.level ≤ p = walk.above_level p m in let k : t < walk.level = below in omega arith;
        reached = step_reached;
        is_found = λ reach all. same_found reach all e;
      }

-- where all that waits is common, what was found is all
pub walk-ends : (cites : ℕ → List ℕ) → LeadDown cites → (states : ℕ) (first : ℕ → ℕ → Bool) (masks : Masks) (starts found : List ℕ) → IsWalk cites states first masks starts found → ((p i j : ℕ) → j < states → waits masks p i ≡ true → waits masks p j ≡ true)
    → (reach : ℕ → ℕ → Bool) → AreAllFrom cites states first reach → (p : ℕ) → ((is_in found p ≡ true) → IsApart states reach p) × (IsApart states reach p → is_in found p ≡ true)
walk-ends cites down states first masks starts found walk common reach all p = ((walk.is_found reach all).is_apart p, λ a. by a (order walk.level p))
  where
    common_due : (q i j : ℕ) → j < states → is_due cites masks starts q i ≡ true → is_due cites masks starts q j ≡ true
    common_due q i j l e = from (or_cases (waits masks q i) _ e)
      where
        from : (waits masks q i ≡ true) ⊎ (is_cited_by cites starts q ≡ true) → is_due cites masks starts q j ≡ true
        from (inl f) = or_left (waits masks q j) _ (common q i j l f)
        from (inr f) = or_right (waits masks q j) _ f

    by : IsApart states reach p → (walk.level ≤ p) ⊎ (p < walk.level) → is_in found p ≡ true
    by a (inl l) = (walk.is_found reach all).has_apart p l a
    by a (inr l) =
        absurd (cc (sym a.not_in_all.2
        ∙ same-below cites down states walk.level (λ i p. first p i) reach (is_due cites masks starts) all (walk.reached reach all) common_due a.in_some.0 a.not_in_all.0 p a.in_some.1 a.not_in_all.1 a.in_some.2 l))
