-- Events that are past: neither they nor what they lead on to are extremities.
use Rattle.std.proofs.Common.{◌≡◌, ◌<◌, ◌+◌, ◌==◌, ◌||◌, ◌&&◌, ◌++◌, ◌⊎◌, inl, inr, ℕ, zero, suc, Bool, true, false, not, List, [], ◌∷◌, filter, map, length, refl, sym, ap, subst, ◌∙◌, arith, eqb-true}
use Rattle.std.proofs.lemmas.Bool.{eqb-false, lt-ltb, ltb-true}
use Rattle.std.proofs.Math.ListN.{set}
use Rattle.std.proofs.lemmas.List.{map-set, get_or-map, get_or-set_other, get_or-set_same, get_or_append_left, length-append, length-map, map-append}
use Rattle.std.proofs.lemmas.List.Elements.{All-map}
use Rattle.std.specs.Prelude.{get_or, slice_index_or, nat_lt, if◌then◌else◌}
use Rattle.std.specs.List.{All}
use Rattle.mx_graph.specs.Edges.{IsAllFrom}
use Rattle.mx_graph.specs.Graph.{CitesDown, IsSound, reached}
use Rattle.mx_graph.specs.Record.{Row, event, is_in, prev_events}
use Rattle.mx_graph.proofs.Closure.{is_in-from, one_answer, or_cases, or_left, or_right, reached-is_least, same_tests}
use Rattle.mx_graph.specs.StateMap.{State}
use Rattle.mx_state_res.proofs.SetLemmas.{is_in-filter}
use Rattle.mx_receipt.specs.Receipt.{is_accepted}
use Rattle.mx_receipt.specs.Judgements.{AreAfter, AreBelow, AreCovered, AreNext, ArePast, IsCovered, Judged, currents, is_marked, judged_in, leads_further, leads_on, unmarked, verdicts_in}
use Rattle.mx_receipt.specs.declared.verdicts.Verdict.{Verdict}
use Rattle.mx_receipt.specs.declared.verdicts.Verdict.TheVariants.{Accepted}
use Rattle.mx_receipt.specs.declared.snapshots.Judgement.{Judgement}
use Rattle.mx_receipt.proofs.CoverLemmas.{no_less}
use Rattle.mx_receipt.proofs.GrowthLemmas.{cites-old, is_in-cases}

pub none-past : (rows : List Row) (verdicts : List Verdict) (exts : List ℕ) (some : ℕ → Bool) → ((p : ℕ) → some p ≡ false) → ArePast rows verdicts exts some
none-past rows verdicts exts some none = record {
  past = λ p. false;
  has = λ p e. sym (none p) ∙ e;
  closed = λ x y e m. e;
  below = λ p e. absurd (cc e);
  apart = λ p e. absurd (cc e);
}

pub past-fewer : (rows : List Row) (verdicts : List Verdict) (exts : List ℕ) (some fewer : ℕ → Bool) → ((p : ℕ) → fewer p ≡ true → some p ≡ true) → ArePast rows verdicts exts some → ArePast rows verdicts exts fewer
past-fewer rows verdicts exts some fewer within h = record {
  past = h.past;
  has = λ p e. h.has p (within p e);
  closed = h.closed;
  below = h.below;
  apart = h.apart;
}

both : (b : Bool) → b ≡ true → b ≡ false → true ≡ false
both b e f = sym e ∙ f

-- ---- a walk that ends at marked events

module _ (rows : List Row) (js : List Judgement) (exts prev : List ℕ) (sound : IsSound rows) where
  abbrev leads : ℕ → List ℕ
  leads = leads_on rows (verdicts_in js)

  down : CitesDown rows leads
  down x y e = sound.prev x y (no_less (is_accepted (slice_index_or (verdicts_in js) x Accepted)) (prev_events rows (event rows x)) y e)

  -- what the prev events lead to, by the definition
  abbrev whole : ℕ → Bool
  whole p = is_in prev p || is_in (reached rows leads prev) p

  is_whole : IsAllFrom leads (is_in prev) whole
  is_whole =
      record {
        has_first = λ p e. or_left (is_in prev p) (is_in (reached rows leads prev) p) e;
        closed = λ x y e m. or_right (is_in prev y) (is_in (reached rows leads prev) y) ((reached-is_least rows leads prev down).0 x y e m);
        least = λ other has closed p e. from other has closed p (or_cases (is_in prev p) (is_in (reached rows leads prev) p) e);
      }
    where
      from : (other : ℕ → Bool) → ((p : ℕ) → is_in prev p ≡ true → other p ≡ true) → ((x y : ℕ) → other x ≡ true → is_in (leads x) y ≡ true → other y ≡ true)
          → (p : ℕ) → (is_in prev p ≡ true) ⊎ (is_in (reached rows leads prev) p ≡ true) → other p ≡ true
      from other has closed p (inl e) = has p e
      from other has closed p (inr e) = (reached-is_least rows leads prev down).1 other (λ x y h m. closed x y (start x (or_cases (is_in prev x) (other x) h)) m) p e
        where
          start : (x : ℕ) → (is_in prev x ≡ true) ⊎ (other x ≡ true) → other x ≡ true
          start x (inl k) = has x k
          start x (inr k) = k

  module _ (found : ℕ → Bool) (walked : IsAllFrom (leads_further rows js) (is_in prev) found) where
    -- it finds no others
    pub found-covered : (covered : ℕ → Bool) → IsCovered rows (verdicts_in js) prev covered → (p : ℕ) → found p ≡ true → covered p ≡ true
    found-covered covered is p e =
        walked.least covered is.has_first (λ x y f m. is.closed x y f (no_less (is_marked js x) (leads x) y m)) p e

    module _ (h : ArePast rows (verdicts_in js) exts (is_marked js)) where
      -- the others are past
      rest : (p : ℕ) → whole p ≡ true → (found p || h.past p) ≡ true
      rest p e = is_whole.least (λ q. found q || h.past q) (λ q f. or_left (found q) (h.past q) (walked.has_first q f)) (λ x y f m. go x y m (or_cases (found x) (h.past x) f)) p e
        where
          further : (x y : ℕ) → found x ≡ true → is_in (leads x) y ≡ true → (b : Bool) → is_marked js x ≡ b → (found y || h.past y) ≡ true
          further x y k m true f = or_right (found y) (h.past y) (h.closed x y (h.has x f) m)
          further x y k m false f = or_left (found y) (h.past y) (walked.closed x y k (ap (λ b. is_in (if b then [] else leads x) y) f ∙ m))

          go : (x y : ℕ) → is_in (leads x) y ≡ true → (found x ≡ true) ⊎ (h.past x ≡ true) → (found y || h.past y) ≡ true
          go x y m (inl k) = further x y k m (is_marked js x) refl
          go x y m (inr k) = or_right (found y) (h.past y) (h.closed x y k m)

      here : (p : ℕ) → is_in exts p ≡ true → (found p ≡ true) ⊎ (h.past p ≡ true) → found p ≡ true
      here p e (inl k) = k
      here p e (inr k) = absurd (cc (both (is_in exts p) e (h.apart p k)))

      same : (p : ℕ) → is_in exts p ≡ true → found p ≡ whole p
      same p e = one_answer (found p) (whole p) (found-covered whole is_whole p) (λ k. here p e (or_cases (found p) (h.past p) (rest p k)))

      -- so it takes the same extremities away as a whole walk
      pub next-is : (number : ℕ) (next : List ℕ) → next ≡ filter (λ p. not (found p)) exts ++ number ∷ [] → AreNext rows (verdicts_in js) prev exts number next
      next-is number next are = record {
        covered = whole;
        is_covered = is_whole;
        are = are ∙ ap (λ xs. xs ++ number ∷ []) (same_tests (λ p. not (found p)) (λ p. not (whole p)) exts (λ p k. ap not (same p (is_in-from p exts k))));
      }

-- ---- one more event

pub marked-push : (js : List Judgement) (j : Judgement) → j.covered ≡ false → (p : ℕ) → is_marked (js ++ j ∷ []) p ≡ is_marked js p
marked-push [] j e zero = e
marked-push [] j e (suc p) = refl
marked-push (k ∷ js) j e zero = refl
marked-push (k ∷ js) j e (suc p) = marked-push js j e p

module _ (rows : List Row) (r : Row) (js : List Judgement) (j : Judgement) (exts exts' : List ℕ) (count : length rows ≡ length js) (sound : IsSound rows) (after : IsSound (rows ++ r ∷ []))
    (h : ArePast rows (verdicts_in js) exts (is_marked js)) (new : j.covered ≡ false) where
  abbrev leads_before : ℕ → List ℕ
  leads_before = leads_on rows (verdicts_in js)

  abbrev leads_after : ℕ → List ℕ
  leads_after = leads_on (rows ++ r ∷ []) (verdicts_in (js ++ j ∷ []))

  verdict-old : (x : ℕ) → x < length rows → slice_index_or (verdicts_in (js ++ j ∷ [])) x Accepted ≡ slice_index_or (verdicts_in js) x Accepted
  verdict-old x l =
      ap (λ vs. slice_index_or vs x Accepted) (map-append (λ (i : Judgement). i.verdict) js (j ∷ []))
      ∙ get_or_append_left (verdicts_in js) (j.verdict ∷ []) Accepted x (let e : length (verdicts_in js) ≡ length js = length-map js (λ (i : Judgement). i.verdict) in omega arith)

  leads-old : (x : ℕ) → x < length rows → leads_after x ≡ leads_before x
  leads-old x l = λ i. if is_accepted (verdict-old x l i) then [] else cites-old rows r sound after x l i

  longer : length (rows ++ r ∷ []) ≡ length rows + 1
  longer = length-append rows (r ∷ [])

  module _ (covered some : ℕ → Bool) (below : (p : ℕ) → covered p ≡ true → p < length rows)
      (closed : (x y : ℕ) → covered x ≡ true → is_in (leads_before x) y ≡ true → covered y ≡ true)
      (within : (p : ℕ) → some p ≡ true → covered p ≡ true)
      (stays : (p : ℕ) → is_in exts' p ≡ true → ((is_in exts p ≡ true) × (covered p ≡ false)) ⊎ (length rows ≡ p)) where
    abbrev now : ℕ → Bool
    now p = h.past p || covered p

    now-below : (p : ℕ) → now p ≡ true → p < length rows
    now-below p e = by (or_cases (h.past p) (covered p) e)
      where
        by : (h.past p ≡ true) ⊎ (covered p ≡ true) → p < length rows
        by (inl k) = h.below p k
        by (inr k) = below p k

    now-has : (p : ℕ) → (is_marked (js ++ j ∷ []) p || some p) ≡ true → now p ≡ true
    now-has p e = by (or_cases (is_marked (js ++ j ∷ []) p) (some p) e)
      where
        by : (is_marked (js ++ j ∷ []) p ≡ true) ⊎ (some p ≡ true) → now p ≡ true
        by (inl k) = or_left (h.past p) (covered p) (h.has p (sym (marked-push js j new p) ∙ k))
        by (inr k) = or_right (h.past p) (covered p) (within p k)

    now-closed : (x y : ℕ) → now x ≡ true → is_in (leads_after x) y ≡ true → now y ≡ true
    now-closed x y e m = by (or_cases (h.past x) (covered x) e)
      where
        old : is_in (leads_before x) y ≡ true
        old = ap (λ zs. is_in zs y) (sym (leads-old x (now-below x e))) ∙ m

        by : (h.past x ≡ true) ⊎ (covered x ≡ true) → now y ≡ true
        by (inl k) = or_left (h.past y) (covered y) (h.closed x y k old)
        by (inr k) = or_right (h.past y) (covered y) (closed x y k old)

    now-apart : (p : ℕ) → now p ≡ true → is_in exts' p ≡ false
    now-apart p e = by (is_in exts' p) refl
      where
        of_old : is_in exts p ≡ true → covered p ≡ false → (h.past p ≡ true) ⊎ (covered p ≡ true) → true ≡ false
        of_old m f (inl k) = both (is_in exts p) m (h.apart p k)
        of_old m f (inr k) = both (covered p) k f

        of : ((is_in exts p ≡ true) × (covered p ≡ false)) ⊎ (length rows ≡ p) → true ≡ false
        of (inl m) = of_old m.0 m.1 (or_cases (h.past p) (covered p) e)
        of (inr m) = absurd (let l : p < length rows = now-below p e in omega arith)

        by : (b : Bool) → is_in exts' p ≡ b → b ≡ false
        by true f = of (stays p f)
        by false f = refl

    past-with : ArePast (rows ++ r ∷ []) (verdicts_in (js ++ j ∷ [])) exts' (λ p. is_marked (js ++ j ∷ []) p || some p)
    past-with = record {
      past = now;
      has = now-has;
      closed = now-closed;
      below = λ p e. let l : p < length rows = now-below p e in let m : length (rows ++ r ∷ []) ≡ length rows + 1 = longer in omega arith;
      apart = now-apart;
    }

  -- what it covers is past
  pub past-push : (verdict : Verdict) (found : List ℕ) → AreAfter rows (verdicts_in js) (prev_events rows r.event) exts (length rows) verdict exts'
      → AreCovered rows js (prev_events rows r.event) verdict found → ((p : ℕ) → is_in (prev_events rows r.event) p ≡ true → p < length rows)
      → ArePast (rows ++ r ∷ []) (verdicts_in (js ++ j ∷ [])) exts' (λ p. is_marked (js ++ j ∷ []) p || is_in found p)
  past-push verdict found are_after are_covered known = by (is_accepted verdict) refl
    where
      parts : (a b : Bool) → (a && not b) ≡ true → (a ≡ true) × (b ≡ false)
      parts true true e = absurd (cc e)
      parts true false e = (refl, refl)
      parts false b e = absurd (cc e)

      of_next : AreNext rows (verdicts_in js) (prev_events rows r.event) exts (length rows) exts' → IsAllFrom (leads_further rows js) (is_in (prev_events rows r.event)) (is_in found)
          → ArePast (rows ++ r ∷ []) (verdicts_in (js ++ j ∷ [])) exts' (λ p. is_marked (js ++ j ∷ []) p || is_in found p)
      of_next n all =
          past-with n.covered (is_in found)
          (λ p e. ltb-true p (length rows) (n.is_covered.least (λ q. nat_lt q (length rows)) (λ q f. lt-ltb q (length rows) (known q f))
          (λ x y f m. lt-ltb y (length rows) (down rows js exts (prev_events rows r.event) sound x y m).0) p e))
          n.is_covered.closed (found-covered rows js exts (prev_events rows r.event) sound (is_in found) all n.covered n.is_covered)
          (λ p e. stay p (is_in-cases (filter (λ q. not (n.covered q)) exts) (length rows) p (ap (λ xs. is_in xs p) (sym n.are) ∙ e)))
        where
          stay : (p : ℕ) → (is_in (filter (λ q. not (n.covered q)) exts) p ≡ true) ⊎ (length rows ≡ p) → ((is_in exts p ≡ true) × (n.covered p ≡ false)) ⊎ (length rows ≡ p)
          stay p (inl k) = inl (parts (is_in exts p) (n.covered p) (sym (is_in-filter (λ q. not (n.covered q)) exts p) ∙ k))
          stay p (inr k) = inr k

      by : (b : Bool) → is_accepted verdict ≡ b → ArePast (rows ++ r ∷ []) (verdicts_in (js ++ j ∷ [])) exts' (λ p. is_marked (js ++ j ∷ []) p || is_in found p)
      by true e = of_next (are_after.replace e) (are_covered.all e)
      by false e =
          past-with (λ p. false) (is_in found) (λ p k. absurd (cc k)) (λ x y k m. k) (λ p k. sym (ap (λ xs. is_in xs p) (are_covered.none e)) ∙ k)
          (λ p k. inl (ap (λ xs. is_in xs p) (sym (are_after.stay e)) ∙ k, refl))

-- ---- marks that are set

or-none : (b : Bool) → b ≡ (b || false)
or-none true = refl
or-none false = refl

or-so : (b : Bool) → true ≡ (b || true)
or-so true = refl
or-so false = refl

-- one of them
pub marked-set : (js : List Judgement) (e : ℕ) (j : Judgement) (p : ℕ) → e < length js → j.covered ≡ true → is_marked (set js e j) p ≡ (is_marked js p || (e == p))
marked-set js e j p l is = by (e == p) refl
  where
    marks : is_marked (set js e j) p ≡ get_or (set (map (λ (i : Judgement). i.covered) js) e j.covered) p false
    marks = ap (λ ms. get_or ms p false) (map-set (λ (i : Judgement). i.covered) js e j)

    len : e < length (map (λ (i : Judgement). i.covered) js)
    len = let f : length (map (λ (i : Judgement). i.covered) js) ≡ length js = length-map js (λ (i : Judgement). i.covered) in omega arith

    by : (b : Bool) → (e == p) ≡ b → is_marked (set js e j) p ≡ (is_marked js p || (e == p))
    by true f =
        marks ∙ ap (λ q. get_or (set (map (λ (i : Judgement). i.covered) js) e j.covered) q false) (sym (eqb-true e p f))
        ∙ get_or-set_same (map (λ (i : Judgement). i.covered) js) e j.covered false len ∙ is ∙ or-so (is_marked js p) ∙ ap (λ b. is_marked js p || b) (sym f)
    by false f =
        marks ∙ get_or-set_other (map (λ (i : Judgement). i.covered) js) e p j.covered false (λ g. absurd (eqb-false e p f (sym g)))
        ∙ or-none (is_marked js p) ∙ ap (λ b. is_marked js p || b) (sym f)

abbrev pub part : Judgement → Verdict × (ℕ × (ℕ × ℕ))
part j = (j.verdict, (j.before, (j.after, j.current)))

verdicts-of : (js : List Judgement) → map (λ (q : Verdict × (ℕ × (ℕ × ℕ))). q.0) (unmarked js) ≡ verdicts_in js
verdicts-of [] = refl
verdicts-of (j ∷ js) = ap (λ vs. j.verdict ∷ vs) (verdicts-of js)

currents-of : (js : List Judgement) → map (λ (q : Verdict × (ℕ × (ℕ × ℕ))). q.1.1.1) (unmarked js) ≡ currents js
currents-of [] = refl
currents-of (j ∷ js) = ap (λ ns. j.current ∷ ns) (currents-of js)

abbrev judged_of : List State → Verdict × (ℕ × (ℕ × ℕ)) → Judged
judged_of states q = record { verdict = q.0; before = Rattle.mx_states.specs.Numbered.state_at states q.1.0; after = Rattle.mx_states.specs.Numbered.state_at states q.1.1.0 }

judged-of : (states : List State) (js : List Judgement) → map (judged_of states) (unmarked js) ≡ judged_in states js
judged-of states [] = refl
judged-of states (j ∷ js) = ap (λ is. judged_of states (part j) ∷ is) (judged-of states js)

module _ (js js' : List Judgement) (stay : unmarked js' ≡ unmarked js) where
  pub marked-verdicts : verdicts_in js' ≡ verdicts_in js
  marked-verdicts = sym (verdicts-of js') ∙ ap (map (λ (q : Verdict × (ℕ × (ℕ × ℕ))). q.0)) stay ∙ verdicts-of js

  pub marked-currents : currents js' ≡ currents js
  marked-currents = sym (currents-of js') ∙ ap (map (λ (q : Verdict × (ℕ × (ℕ × ℕ))). q.1.1.1)) stay ∙ currents-of js

  pub marked-judged : (states : List State) → judged_in states js' ≡ judged_in states js
  marked-judged states = sym (judged-of states js') ∙ ap (map (judged_of states)) stay ∙ judged-of states js

  pub marked-below : (n : ℕ) → AreBelow n js → AreBelow n js'
  marked-below n h = λ k d l.
      subst (λ (q : Verdict × (ℕ × (ℕ × ℕ))). (q.1.0 < n) × (q.1.1.0 < n)) (get_or-map part js' k d (part d) l)
      (subst (All (λ (q : Verdict × (ℕ × (ℕ × ℕ))). (q.1.0 < n) × (q.1.1.0 < n))) (sym stay) (All-map (λ (q : Verdict × (ℕ × (ℕ × ℕ))). (q.1.0 < n) × (q.1.1.0 < n)) part js h) k (part d)
      (let e : length (unmarked js') ≡ length js' = length-map js' part in omega arith))
