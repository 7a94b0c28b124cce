-- Steps of arranging: what is ready, what waits, and what comes next.
use Rattle.std.proofs.Common.{◌≡◌, ℕ, zero, suc, ◌+◌, ◌-◌, ◌<◌, ◌≤◌, ◌==◌, ◌⊎◌, inl, inr, Bool, true, false, cond, not, ◌||◌, List, [], ◌∷◌, ◌++◌, length, Option, Some, None, refl, sym, ap, ◌∙◌, subst, arith, set, eq-eqb, eqb-true}
use Rattle.std.specs.Prelude.{Vec, option_map, unwrap_or}
use Rattle.std.specs.List.{list_any, range_with_len}
use Rattle.std.specs.Ordering.{nat_cmp, is_eq}
use Rattle.std.proofs.lemmas.Bool.Decides.{nat_tests}
use Rattle.std.specs.declared.alloc.Global.{Global}
use Rattle.mx_export.specs.Arrangement.{arranged, is_free, next, taken, unarranged}
use Rattle.mx_export.specs.Arranging.{IsConsistent, is_left, lefts}
use Rattle.mx_export.proofs.LeftLemmas.{any-left, no-left, not_true, taken-left, taken-none, left-set, left-set-other, left-set-same}

module _ (cites : ℕ → ℕ → Bool) (ws : List Bool) (ready : ℕ → Bool) (waits : ℕ → ℕ → Bool) (h : IsConsistent cites (is_left ws) ready waits) where
  -- a place is ready, or waits
  abbrev pub Held : ℕ → Type 0
  Held p = (ready p ≡ true) ⊎ ((q : ℕ) × (waits p q ≡ true))

  abbrev free : ℕ → Bool
  free p = is_free cites (lefts 0 ws) p

  ready-free : (p : ℕ) → ready p ≡ true → free p ≡ true
  ready-free p r = ap not (no-left (cites p) ws (λ q left. not_true (cites p q) (λ k. absurd (cc (sym left ∙ h.ready_free p q r k)))))

  waiting-free : (p : ℕ) → ((q : ℕ) × (waits p q ≡ true)) → free p ≡ false
  waiting-free p w = ap not (any-left (cites p) ws w.0 (h.awaited_left p w.0 w.1) (h.awaited_cited p w.0 w.1))

  held-free : (p : ℕ) → Held p → (ready p ≡ true → ⊥) → free p ≡ false
  held-free p (inl r) never = absurd (never r)
  held-free p (inr w) never = waiting-free p w

  pub next-ready : ((p : ℕ) → is_left ws p ≡ true → Held p) → (p : ℕ) → ready p ≡ true → ((q : ℕ) → ready q ≡ true → p ≤ q)
      → next cites (lefts 0 ws) ≡ Some (p, lefts 0 (set ws p true))
  next-ready held p r least =
      taken-left free ws p (h.ready_left p r) (ready-free p r)
      (λ q l left. held-free q (held q left) (λ k. below q l (least q k)))
    where
      below : (q : ℕ) → q < p → p ≤ q → ⊥
      below q l m = omega (arith, l, m)

  pub next-none : ((p : ℕ) → is_left ws p ≡ true → Held p) → ((p : ℕ) → ready p ≡ false) → next cites (lefts 0 ws) ≡ None
  next-none held none = taken-none free (lefts 0 ws) (no-left free ws (λ p left. held-free p (held p left) (λ r. absurd (cc (sym r ∙ none p)))))

  -- one more is ready
  pub one_more_ready : (more : ℕ → Bool) (p : ℕ) → is_left ws p ≡ true → ((q : ℕ) → cites p q ≡ true → is_left ws q ≡ false)
      → ((q : ℕ) → more q ≡ true → (q ≡ p) ⊎ (ready q ≡ true)) → IsConsistent cites (is_left ws) more waits
  one_more_ready more p left free_of old = record {
    ready_left = λ q r. here q (old q r);
    ready_free = λ q u r k. there q u k (old q r);
    waiting_left = h.waiting_left;
    awaited_left = h.awaited_left;
    awaited_cited = h.awaited_cited;
  }
    where
      here : (q : ℕ) → (q ≡ p) ⊎ (ready q ≡ true) → is_left ws q ≡ true
      here q (inl e) = subst (λ i. is_left ws i ≡ true) (sym e) left
      here q (inr r) = h.ready_left q r

      there : (q u : ℕ) → cites q u ≡ true → (q ≡ p) ⊎ (ready q ≡ true) → is_left ws u ≡ false
      there q u k (inl e) = free_of u (subst (λ i. cites i u ≡ true) e k)
      there q u k (inr r) = h.ready_free q u r k

  -- one more waits
  pub one_more_waits : (more : ℕ → ℕ → Bool) (p a : ℕ) → is_left ws p ≡ true → is_left ws a ≡ true → cites p a ≡ true
      → ((q b : ℕ) → more q b ≡ true → ((q ≡ p) × (b ≡ a)) ⊎ (waits q b ≡ true)) → IsConsistent cites (is_left ws) ready more
  one_more_waits more p a left away cited old = record {
    ready_left = h.ready_left;
    ready_free = h.ready_free;
    waiting_left = λ q b k. one q b (old q b k);
    awaited_left = λ q b k. two q b (old q b k);
    awaited_cited = λ q b k. three q b (old q b k);
  }
    where
      one : (q b : ℕ) → ((q ≡ p) × (b ≡ a)) ⊎ (waits q b ≡ true) → is_left ws q ≡ true
      one q b (inl e) = subst (λ i. is_left ws i ≡ true) (sym e.0) left
      one q b (inr k) = h.waiting_left q b k

      two : (q b : ℕ) → ((q ≡ p) × (b ≡ a)) ⊎ (waits q b ≡ true) → is_left ws b ≡ true
      two q b (inl e) = subst (λ i. is_left ws i ≡ true) (sym e.1) away
      two q b (inr k) = h.awaited_left q b k

      three : (q b : ℕ) → ((q ≡ p) × (b ≡ a)) ⊎ (waits q b ≡ true) → cites q b ≡ true
      three q b (inl e) = subst (λ i. cites i b ≡ true) (sym e.0) (subst (λ i. cites p i ≡ true) (sym e.1) cited)
      three q b (inr k) = h.awaited_cited q b k

  -- what is ready cites none that is left, so it waits for none
  pub ready-waits : (p q b : ℕ) → ready p ≡ true → waits q b ≡ true → q ≡ p → ⊥
  ready-waits p q b r k e =
      let cited : cites p b ≡ true = subst (λ i. cites i b ≡ true) e (h.awaited_cited q b k) in
      absurd (cc (sym (h.awaited_left q b k) ∙ h.ready_free p b r cited))

  -- a place that is ready is written
  pub one_more_written : (fewer : ℕ → Bool) (less : ℕ → ℕ → Bool) (p : ℕ) → ready p ≡ true
      → ((q : ℕ) → fewer q ≡ true → (q ≡ p → ⊥) × (ready q ≡ true))
      → ((q b : ℕ) → less q b ≡ true → (b ≡ p → ⊥) × (waits q b ≡ true))
      → IsConsistent cites (is_left (set ws p true)) fewer less
  one_more_written fewer less p r old_ready old_waits = record {
    ready_left = λ q k. left-set-other ws p q (old_ready q k).0 (h.ready_left q (old_ready q k).1);
    ready_free = λ q u k c. not_true (is_left (set ws p true) u) (λ l. absurd (cc (sym (left-set ws p u l) ∙ h.ready_free q u (old_ready q k).1 c)));
    waiting_left = λ q b k. left-set-other ws p q (ready-waits p q b r (old_waits q b k).1) (h.waiting_left q b (old_waits q b k).1);
    awaited_left = λ q b k. left-set-other ws p b (old_waits q b k).0 (h.awaited_left q b (old_waits q b k).1);
    awaited_cited = λ q b k. h.awaited_cited q b (old_waits q b k).1;
  }

-- ---- the places so far, and those that follow

pub arranged-none : (cites : ℕ → ℕ → Bool) (n : ℕ) (left : List ℕ) → next cites left ≡ None → arranged cites n left ≡ []
arranged-none cites zero left e = refl
arranged-none cites (suc n) left e = ap (λ o. unwrap_or (option_map (λ r. r.0 ∷ arranged cites n r.1) o) []) e

pub arranged-next : (cites : ℕ → ℕ → Bool) (n : ℕ) (left more : List ℕ) (p : ℕ) → next cites left ≡ Some (p, more)
    → arranged cites (suc n) left ≡ p ∷ arranged cites n more
arranged-next cites n left more p e = ap (λ o. unwrap_or (option_map (λ r. r.0 ∷ arranged cites n r.1) o) []) e

-- ---- sets of places

equal_to : (k q : ℕ) → is_eq (nat_cmp k q) ≡ true → k ≡ q
equal_to k q e = grind (arith, nat_tests)

equal_from : (k : ℕ) → is_eq (nat_cmp k k) ≡ true
equal_from k = grind (arith, nat_tests)

pub added-cases : (old new : ℕ → Bool) (p : ℕ) → ((q : ℕ) → new q ≡ cond (is_eq (nat_cmp p q)) true (old q))
    → (q : ℕ) → new q ≡ true → (q ≡ p) ⊎ (old q ≡ true)
added-cases old new p u q e = by (is_eq (nat_cmp p q)) refl
  where
    by : (b : Bool) → is_eq (nat_cmp p q) ≡ b → (q ≡ p) ⊎ (old q ≡ true)
    by true k = inl (sym (equal_to p q k))
    by false k = inr (sym (ap (λ b. cond b true (old q)) k) ∙ sym (u q) ∙ e)

pub removed-cases : (old new : ℕ → Bool) (p : ℕ) → ((q : ℕ) → new q ≡ cond (is_eq (nat_cmp p q)) false (old q))
    → (q : ℕ) → new q ≡ true → (q ≡ p → ⊥) × (old q ≡ true)
removed-cases old new p u q e = by (is_eq (nat_cmp p q)) refl
  where
    by : (b : Bool) → is_eq (nat_cmp p q) ≡ b → (q ≡ p → ⊥) × (old q ≡ true)
    by true k = absurd (cc (sym e ∙ u q ∙ ap (λ b. cond b false (old q)) k))
    by false k = (
      λ s. absurd (cc (sym (subst (λ i. is_eq (nat_cmp p i) ≡ true) (sym s) (equal_from p)) ∙ k)),
      sym (ap (λ b. cond b false (old q)) k) ∙ sym (u q) ∙ e,
    )

pub removed-keeps : (old new : ℕ → Bool) (p : ℕ) → ((q : ℕ) → new q ≡ cond (is_eq (nat_cmp p q)) false (old q))
    → (q : ℕ) → (q ≡ p → ⊥) → old q ≡ true → new q ≡ true
removed-keeps old new p u q n e = by (is_eq (nat_cmp p q)) refl
  where
    by : (b : Bool) → is_eq (nat_cmp p q) ≡ b → new q ≡ true
    by true k = absurd (n (sym (equal_to p q k)))
    by false k = u q ∙ ap (λ b. cond b false (old q)) k ∙ e
