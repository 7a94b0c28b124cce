-- What a record's citations lead to, as it takes one more row.
use Rattle.std.proofs.Common.{◌≡◌, ◌<◌, ◌≤◌, ◌+◌, ◌==◌, ◌||◌, ◌++◌, ◌⊎◌, inl, inr, ℕ, Bool, true, false, List, [], ◌∷◌, length, refl, sym, ap, subst, ◌∙◌, arith, eq-eqb, eqb-true}
use Rattle.std.proofs.lemmas.Bool.{cases_lt, lt-ltb, ltb-true}
use Rattle.std.proofs.Math.ListN.{get_or-eq_default}
use Rattle.std.proofs.lemmas.List.{length-append}
use Rattle.std.specs.Prelude.{slice_index_or, if◌then◌else◌, nat_lt}
use Rattle.mx_pdu.specs.Event.{prev_ids}
use Rattle.mx_graph.specs.Edges.{IsAllFrom}
use Rattle.mx_graph.specs.Graph.{IsSound, IsClosed, ancestors}
use Rattle.mx_graph.specs.Record.{Row, no_row, event, is_in, prev_events}
use Rattle.mx_graph.proofs.Closure.{one_answer, or_cases, or_left, or_right}
use Rattle.mx_graph.proofs.ReachedLemmas.{closures-least}
use Rattle.mx_graph.proofs.RemovalLemmas.{lt-neq, places-before}
use Rattle.mx_graph.proofs.RowLemmas.{row-new, row-other}
use Rattle.mx_receipt.specs.Receipt.{is_accepted}
use Rattle.mx_receipt.specs.Judgements.{leads_on}
use Rattle.mx_receipt.specs.declared.verdicts.Verdict.{Verdict}
use Rattle.mx_receipt.specs.declared.verdicts.Verdict.TheVariants.{Accepted}

-- ---- numbers

none_in : (xs : List ℕ) (y : ℕ) → xs ≡ [] → is_in xs y ≡ true → true ≡ false
none_in xs y e h = sym h ∙ ap (λ zs. is_in zs y) e

is_in-left : (xs ys : List ℕ) (x : ℕ) → is_in xs x ≡ true → is_in (xs ++ ys) x ≡ true
is_in-left [] ys x e = absurd (cc e)
is_in-left (z ∷ xs) ys x e = by (is_in-left xs ys x) (or_cases (z == x) (is_in xs x) e)
  where
    by : (is_in xs x ≡ true → is_in (xs ++ ys) x ≡ true) → ((z == x) ≡ true) ⊎ (is_in xs x ≡ true) → is_in (z ∷ xs ++ ys) x ≡ true
    by later (inl k) = or_left (z == x) (is_in (xs ++ ys) x) k
    by later (inr k) = or_right (z == x) (is_in (xs ++ ys) x) (later k)

is_in-last : (xs : List ℕ) (x : ℕ) → is_in (xs ++ x ∷ []) x ≡ true
is_in-last [] x = or_left (x == x) false (eq-eqb x x refl)
is_in-last (z ∷ xs) x = or_right (z == x) (is_in (xs ++ x ∷ []) x) (is_in-last xs x)

pub is_in-cases : (xs : List ℕ) (n x : ℕ) → is_in (xs ++ n ∷ []) x ≡ true → (is_in xs x ≡ true) ⊎ (n ≡ x)
is_in-cases [] n x e = by (or_cases (n == x) false e)
  where
    by : ((n == x) ≡ true) ⊎ (false ≡ true) → (is_in [] x ≡ true) ⊎ (n ≡ x)
    by (inl k) = inr (eqb-true n x k)
    by (inr k) = absurd (cc k)
is_in-cases (z ∷ xs) n x e = by (is_in-cases xs n x) (or_cases (z == x) (is_in (xs ++ n ∷ []) x) e)
  where
    after : (is_in xs x ≡ true) ⊎ (n ≡ x) → (is_in (z ∷ xs) x ≡ true) ⊎ (n ≡ x)
    after (inl k) = inl (or_right (z == x) (is_in xs x) k)
    after (inr k) = inr k

    by : (is_in (xs ++ n ∷ []) x ≡ true → (is_in xs x ≡ true) ⊎ (n ≡ x)) → ((z == x) ≡ true) ⊎ (is_in (xs ++ n ∷ []) x ≡ true) → (is_in (z ∷ xs) x ≡ true) ⊎ (n ≡ x)
    by later (inl k) = inl (or_left (z == x) (is_in xs x) k)
    by later (inr k) = after (later k)

-- ---- what events cite

module _ (rows : List Row) (r : Row) (sound : IsSound rows) (after : IsSound (rows ++ r ∷ [])) where
  abbrev cites : ℕ → List ℕ
  cites p = prev_events rows (event rows p)

  abbrev cites_after : ℕ → List ℕ
  cites_after p = prev_events (rows ++ r ∷ []) (event (rows ++ r ∷ []) p)

  pub cites-old : (x : ℕ) → x < length rows → cites_after x ≡ cites x
  cites-old x l =
      places-before rows r (prev_ids (event (rows ++ r ∷ []) x)) (λ y e. let low : y < x = (after.prev x y e).1 in omega arith)
      ∙ ap (λ (s : Row). prev_events rows s.event) (row-other rows r x (lt-neq x (length rows) l))

  cites-new : cites_after (length rows) ≡ prev_events rows r.event
  cites-new =
      places-before rows r (prev_ids (event (rows ++ r ∷ []) (length rows))) (λ y e. (after.prev (length rows) y e).1)
      ∙ ap (λ (s : Row). prev_events rows s.event) (row-new rows r)

  cites-beyond : (x : ℕ) → length rows ≤ x → cites x ≡ []
  cites-beyond x l = ap (λ (s : Row). prev_events rows s.event) (get_or-eq_default rows no_row {n = x} l)

  cites_after-beyond : (x : ℕ) → length rows < x → cites_after x ≡ []
  cites_after-beyond x l =
      let longer : length (rows ++ r ∷ []) ≤ x = (let e : length (rows ++ r ∷ []) ≡ length rows + 1 = length-append rows (r ∷ []) in omega arith) in
      ap (λ (s : Row). prev_events (rows ++ r ∷ []) s.event) (get_or-eq_default (rows ++ r ∷ []) no_row {n = x} longer)

  -- ancestors are rows
  pub ancestors-below : (starts : List ℕ) (p : ℕ) → is_in (ancestors rows starts) p ≡ true → p < length rows
  ancestors-below starts p e =
      ltb-true p (length rows) ((closures-least rows starts sound).0.1 (λ q. nat_lt q (length rows)) (λ x y h k. lt-ltb y (length rows) (sound.prev x y k).0) p e)

  module _ (starts : List ℕ) (below : (x : ℕ) → is_in starts x ≡ true → x < length rows) where
    -- a start or an ancestor is a row
    member-below : (x : ℕ) → (is_in starts x || is_in (ancestors rows starts) x) ≡ true → x < length rows
    member-below x h = by (or_cases (is_in starts x) (is_in (ancestors rows starts) x) h)
      where
        by : (is_in starts x ≡ true) ⊎ (is_in (ancestors rows starts) x ≡ true) → x < length rows
        by (inl k) = below x k
        by (inr k) = ancestors-below starts x k

    -- what is closed in the longer record is closed in the record, for more starts
    closed-before : (more : List ℕ) (test : ℕ → Bool) → ((x : ℕ) → is_in starts x ≡ true → is_in more x ≡ true) → IsClosed cites_after more test → IsClosed cites starts test
    closed-before more test has closed x y h k = by (cases_lt x (length rows))
      where
        in_more : (is_in starts x ≡ true) ⊎ (test x ≡ true) → (is_in more x || test x) ≡ true
        in_more (inl e) = or_left (is_in more x) (test x) (has x e)
        in_more (inr e) = or_right (is_in more x) (test x) e

        by : (x < length rows) ⊎ (length rows ≤ x) → test y ≡ true
        by (inl l) = closed x y (in_more (or_cases (is_in starts x) (test x) h)) (ap (λ zs. is_in zs y) (cites-old x l) ∙ k)
        by (inr l) = absurd (cc (none_in (cites x) y (cites-beyond x l) k))

    -- the row changes nothing for those before it
    pub ancestors-longer : (p : ℕ) → is_in (ancestors (rows ++ r ∷ []) starts) p ≡ is_in (ancestors rows starts) p
    ancestors-longer p =
        one_answer (is_in (ancestors (rows ++ r ∷ []) starts) p) (is_in (ancestors rows starts) p)
        ((closures-least (rows ++ r ∷ []) starts after).0.1 (is_in (ancestors rows starts))
        (λ x y h k. (closures-least rows starts sound).0.0 x y h (ap (λ zs. is_in zs y) (sym (cites-old x (member-below x h))) ∙ k)) p)
        ((closures-least rows starts sound).0.1 (is_in (ancestors (rows ++ r ∷ []) starts))
        (closed-before starts (is_in (ancestors (rows ++ r ∷ []) starts)) (λ x e. e) (closures-least (rows ++ r ∷ []) starts after).0.0) p)

    -- with the row as a start, what its prev events lead to comes beside
    module _ (verdicts : List Verdict) (covered : ℕ → Bool) (is_covered : IsAllFrom (leads_on rows verdicts) (is_in (prev_events rows r.event)) covered)
        (accepted : (x : ℕ) → x < length rows → is_accepted (slice_index_or verdicts x Accepted) ≡ true → is_in starts x ≡ true) where
      leads-part : (b : Bool) (xs : List ℕ) (y : ℕ) → is_in (if b then [] else xs) y ≡ true → is_in xs y ≡ true
      leads-part true xs y e = absurd (cc e)
      leads-part false xs y e = e

      -- what is covered are rows
      pub covered-below : (p : ℕ) → covered p ≡ true → p < length rows
      covered-below p e =
          ltb-true p (length rows) (is_covered.least (λ q. nat_lt q (length rows))
          (λ q f. lt-ltb q (length rows) (after.prev (length rows) q (ap (λ zs. is_in zs q) cites-new ∙ f)).1)
          (λ x y f k. lt-ltb y (length rows) (sound.prev x y (leads-part (is_accepted (slice_index_or verdicts x Accepted)) (cites x) y k)).0) p e)

      from_both : IsClosed cites_after (starts ++ length rows ∷ []) (λ q. is_in (ancestors rows starts) q || covered q)
      from_both x y h k = by (cases_lt x (length rows))
        where
          before : is_in (ancestors rows starts) y ≡ true → (is_in (ancestors rows starts) y || covered y) ≡ true
          before e = or_left (is_in (ancestors rows starts) y) (covered y) e

          beside : covered y ≡ true → (is_in (ancestors rows starts) y || covered y) ≡ true
          beside e = or_right (is_in (ancestors rows starts) y) (covered y) e

          -- of a row that is covered, where it was accepted and where it was not
          of_covered : x < length rows → covered x ≡ true → is_in (cites x) y ≡ true → (b : Bool) → is_accepted (slice_index_or verdicts x Accepted) ≡ b → (is_in (ancestors rows starts) y || covered y) ≡ true
          of_covered l e m true f = before ((closures-least rows starts sound).0.0 x y (or_left (is_in starts x) (is_in (ancestors rows starts) x) (accepted x l f)) m)
          of_covered l e m false f = beside (is_covered.closed x y e (ap (λ b. is_in (if b then [] else cites x) y) f ∙ m))

          of_start : x < length rows → is_in (cites x) y ≡ true → (is_in starts x ≡ true) ⊎ (length rows ≡ x) → (is_in (ancestors rows starts) y || covered y) ≡ true
          of_start l m (inl e) = before ((closures-least rows starts sound).0.0 x y (or_left (is_in starts x) (is_in (ancestors rows starts) x) e) m)
          of_start l m (inr e) = absurd (omega arith)

          of_member : x < length rows → is_in (cites x) y ≡ true → (is_in (ancestors rows starts) x ≡ true) ⊎ (covered x ≡ true) → (is_in (ancestors rows starts) y || covered y) ≡ true
          of_member l m (inl e) = before ((closures-least rows starts sound).0.0 x y (or_right (is_in starts x) (is_in (ancestors rows starts) x) e) m)
          of_member l m (inr e) = of_covered l e m (is_accepted (slice_index_or verdicts x Accepted)) refl

          of_row : x < length rows → is_in (cites x) y ≡ true → (is_in (starts ++ length rows ∷ []) x ≡ true) ⊎ ((is_in (ancestors rows starts) x || covered x) ≡ true) → (is_in (ancestors rows starts) y || covered y) ≡ true
          of_row l m (inl e) = of_start l m (is_in-cases starts (length rows) x e)
          of_row l m (inr e) = of_member l m (or_cases (is_in (ancestors rows starts) x) (covered x) e)

          of_last : length rows ≡ x → (is_in (ancestors rows starts) y || covered y) ≡ true
          of_last e = beside (is_covered.has_first y (ap (λ zs. is_in zs y) (sym cites-new) ∙ subst (λ n. is_in (cites_after n) y ≡ true) (sym e) k))

          beyond : (length rows < x) ⊎ (x ≤ length rows) → length rows ≤ x → (is_in (ancestors rows starts) y || covered y) ≡ true
          beyond (inl l) m = absurd (cc (none_in (cites_after x) y (cites_after-beyond x l) k))
          beyond (inr l) m = of_last (omega arith)

          by : (x < length rows) ⊎ (length rows ≤ x) → (is_in (ancestors rows starts) y || covered y) ≡ true
          by (inl l) = of_row l (ap (λ zs. is_in zs y) (sym (cites-old x l)) ∙ k) (or_cases (is_in (starts ++ length rows ∷ []) x) (is_in (ancestors rows starts) x || covered x) h)
          by (inr l) = beyond (cases_lt (length rows) x) l

      from_either : (p : ℕ) → (is_in (ancestors rows starts) p || covered p) ≡ true → is_in (ancestors (rows ++ r ∷ []) (starts ++ length rows ∷ [])) p ≡ true
      from_either p h = by (or_cases (is_in (ancestors rows starts) p) (covered p) h)
        where
          closed : IsClosed cites starts (is_in (ancestors (rows ++ r ∷ []) (starts ++ length rows ∷ [])))
          closed =
              closed-before (starts ++ length rows ∷ []) (is_in (ancestors (rows ++ r ∷ []) (starts ++ length rows ∷ []))) (is_in-left starts (length rows ∷ []))
              (closures-least (rows ++ r ∷ []) (starts ++ length rows ∷ []) after).0.0

          by : (is_in (ancestors rows starts) p ≡ true) ⊎ (covered p ≡ true) → is_in (ancestors (rows ++ r ∷ []) (starts ++ length rows ∷ [])) p ≡ true
          by (inl e) = (closures-least rows starts sound).0.1 (is_in (ancestors (rows ++ r ∷ []) (starts ++ length rows ∷ []))) closed p e
          by (inr e) =
              is_covered.least (is_in (ancestors (rows ++ r ∷ []) (starts ++ length rows ∷ [])))
              (λ q f. (closures-least (rows ++ r ∷ []) (starts ++ length rows ∷ []) after).0.0 (length rows) q
              (or_left (is_in (starts ++ length rows ∷ []) (length rows)) (is_in (ancestors (rows ++ r ∷ []) (starts ++ length rows ∷ [])) (length rows)) (is_in-last starts (length rows)))
              (ap (λ zs. is_in zs q) cites-new ∙ f))
              (λ x y f k. closed x y (or_right (is_in starts x) (is_in (ancestors (rows ++ r ∷ []) (starts ++ length rows ∷ [])) x) f)
              (leads-part (is_accepted (slice_index_or verdicts x Accepted)) (cites x) y k)) p e

      pub ancestors-with : (p : ℕ) → is_in (ancestors (rows ++ r ∷ []) (starts ++ length rows ∷ [])) p ≡ (is_in (ancestors rows starts) p || covered p)
      ancestors-with p =
          one_answer (is_in (ancestors (rows ++ r ∷ []) (starts ++ length rows ∷ [])) p) (is_in (ancestors rows starts) p || covered p)
          ((closures-least (rows ++ r ∷ []) (starts ++ length rows ∷ []) after).0.1 (λ q. is_in (ancestors rows starts) q || covered q) from_both p)
          (from_either p)
