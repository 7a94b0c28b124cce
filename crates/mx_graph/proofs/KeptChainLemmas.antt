-- The index of auth chains agrees with the rows, with one row more and with one less.
use Rattle.std.proofs.Common.{◌≡◌, ℕ, zero, suc, ◌+◌, ◌==◌, ◌≤◌, ◌<◌, nat_le, nat_lt, Bool, true, false, not, ◌||◌, ◌&&◌, ◌⊎◌, inl, inr, List, [], ◌∷◌, ◌++◌, length, map, get_or, Option, Some, None, IfSome, is_some, refl, sym, ap, ap₂, subst, ◌∙◌, arith, eq-eqb, eqb-true, length-append, Vec}
use Rattle.std.proofs.lemmas.Bool.{cases_lt}
use Rattle.std.proofs.lemmas.Bool.Decides.{nat_tests}
use Rattle.std.specs.List.{All, list_any, list_all}
use Rattle.std.specs.declared.alloc.Global.{Global}
use Rattle.mx_graph.specs.AuthChains.{all_have, alone, any_has, cited_has, differs, has_row, kept_at, place_at, rows_of, some_cited_has, some_has, AreChains, AreDistinct, AreEnds, AreKept, AreMet, AreReached}
use Rattle.mx_graph.specs.Graph.{CitesDown, IsClosed, IsSound, auth_chain, is_in_difference, most_chains, reached}
use Rattle.mx_graph.specs.Edges.{cited}
use Rattle.mx_graph.specs.Inside.{met_in, AreKeptFor, IsIndexed}
use Rattle.mx_graph.specs.declared.auth_chains.AuthChains.{AuthChains}
use Rattle.mx_graph.specs.Record.{Row, event, is_in, auth_events}
use Rattle.mx_graph.specs.declared.auth_chains.ChainPlace.{ChainPlace}
use Rattle.mx_graph.specs.declared.reached_rows.Reached.{Reached}
use Rattle.mx_graph.proofs.ChainLemmas.{any-in, any-same, end-of, ends-same, no-row, not-both}
use Rattle.mx_graph.proofs.Closure.{one_answer, or_cases, or_left, or_right, reached-each, reached-is_least, same_closed}
use Rattle.mx_graph.proofs.LongerRecordLemmas.{AreEvents, auth_chain-longer, longer-push, sound-before}
use Rattle.mx_graph.proofs.MarkLemmas.{any-to}
use Rattle.mx_graph.proofs.ShortChainLemmas.{distinct-none}

-- ---- the auth chain of a row, by what it cites

single : (a m : Bool) → (a || m) ≡ true → ((a || false) || m) ≡ true
single true m e = refl
single false m e = e

alone-in : (q x : ℕ) → is_in (q ∷ []) x ≡ true → q ≡ x
alone-in q x e = by (or_cases (q == x) false e)
  where
    by : ((q == x) ≡ true) ⊎ (false ≡ true) → q ≡ x
    by (inl k) = eqb-true q x k
    by (inr k) = absurd (cc k)

module _ (rows : List Row) (cites : ℕ → List ℕ) (down : CitesDown rows cites) where
  abbrev pub meets : ℕ → ℕ → Bool
  meets r p = is_in (reached rows cites (r ∷ [])) p

  module _ (r : ℕ) where
    abbrev by_cited : ℕ → Bool
    by_cited p = list_any (λ q. (q == p) || meets q p) (cites r)

    by_cited-closed : IsClosed cites (r ∷ []) by_cited
    by_cited-closed x y h k = by (or_cases (is_in (r ∷ []) x) (by_cited x) h)
      where
        by : (is_in (r ∷ []) x ≡ true) ⊎ (by_cited x ≡ true) → by_cited y ≡ true
        by (inl e) = any-in (λ q. (q == y) || meets q y) (cites r) y (ap (λ z. is_in (cites z) y) (alone-in r x e) ∙ k) (or_left (y == y) (meets y y) (eq-eqb y y refl))
        by (inr e) =
            let w = any-to (λ q. (q == x) || meets q x) (cites r) e in
            any-in (λ q. (q == y) || meets q y) (cites r) w.0 w.1 (or_right (w.0 == y) (meets w.0 y) ((reached-is_least rows cites (w.0 ∷ []) down).0 x y (single (w.0 == x) (meets w.0 x) w.2) k))

    by_cited-least : (other : ℕ → Bool) → IsClosed cites (r ∷ []) other → (p : ℕ) → by_cited p ≡ true → other p ≡ true
    by_cited-least other closed p e = let w = any-to (λ q. (q == p) || meets q p) (cites r) e in at w.0 (first w.0 w.1) (or_cases (w.0 == p) (meets w.0 p) w.2)
      where
        first : (q : ℕ) → is_in (cites r) q ≡ true → other q ≡ true
        first q k = closed r q (or_left (is_in (r ∷ []) r) (other r) (or_left (r == r) false (eq-eqb r r refl))) k

        narrow : (q : ℕ) → other q ≡ true → IsClosed cites (q ∷ []) other
        narrow q o x y h k = closed x y (or_right (is_in (r ∷ []) x) (other x) (by (or_cases (is_in (q ∷ []) x) (other x) h))) k
          where
            by : (is_in (q ∷ []) x ≡ true) ⊎ (other x ≡ true) → other x ≡ true
            by (inl m) = ap other (sym (alone-in q x m)) ∙ o
            by (inr m) = m

        at : (q : ℕ) → other q ≡ true → ((q == p) ≡ true) ⊎ (meets q p ≡ true) → other p ≡ true
        at q o (inl k) = ap other (sym (eqb-true q p k)) ∙ o
        at q o (inr k) = (reached-is_least rows cites (q ∷ []) down).1 other (narrow q o) p k

    lower-closed : IsClosed cites (r ∷ []) (λ p. nat_lt p r)
    lower-closed x y h k = by (or_cases (is_in (r ∷ []) x) (nat_lt x r) h)
      where
        d : y < x
        d = (down x y k).1

        by : (is_in (r ∷ []) x ≡ true) ⊎ (nat_lt x r ≡ true) → nat_lt y r ≡ true
        by (inl e) = let s : r ≡ x = alone-in r x e in let l : y < x = d in grind (arith, nat_tests)
        by (inr e) = let l : y < x = d in grind (arith, nat_tests)

  pub met-reached : AreMet cites meets
  met-reached = record {
    step = λ r p. same_closed cites (r ∷ []) (meets r) (by_cited r) (reached-is_least rows cites (r ∷ []) down) (by_cited-closed r, by_cited-least r) p;
    down = λ r p e. let t : nat_lt p r ≡ true = (reached-is_least rows cites (r ∷ []) down).1 (λ q. nat_lt q r) (lower-closed r) p e in grind (arith, nat_tests);
  }

pub met-rows : (rows : List Row) → CitesDown rows (λ p. auth_events rows (event rows p)) → AreMet (λ p. auth_events rows (event rows p)) (met_in rows)
unfolding auth_chain
met-rows rows down = met-reached rows (λ p. auth_events rows (event rows p)) down

-- ---- what is kept tells of the rows

module _ (rows : List Row) (down : CitesDown rows (λ p. auth_events rows (event rows p))) (at : ℕ → ChainPlace) (kept : ℕ → Option (Vec Reached Global)) (chains : AreChains (met_in rows) at kept) where
  pub each-chain : (starts : List ℕ) (p : ℕ) → is_in (auth_chain rows starts) p ≡ list_any (λ s. met_in rows s p) starts
  unfolding auth_chain
  each-chain starts p = reached-each rows (λ p. auth_events rows (event rows p)) down starts p

  pub kept-tells : (starts : List ℕ) → AreKept kept starts → (p : ℕ) → some_has kept starts (at p).chain p ≡ is_in (auth_chain rows starts) p
  kept-tells starts all p =
      any-same (λ s. has_row (rows_of (kept s)) (at p).chain p) (λ s. met_in rows s p) starts (λ s m. sym (chains.exact s (all s m) p)) ∙ sym (each-chain starts p)

  some-tell : (apart : List (Vec ℕ Global)) → All (λ (others : Vec ℕ Global). AreKept kept others.items) apart → (p : ℕ) → any_has kept apart (at p).chain p ≡ list_any (λ chain. is_in chain p) (map (auth_chain rows) (map (λ (others : Vec ℕ Global). others.items) apart))
  some-tell [] all p = refl
  some-tell (v ∷ apart) all p = ap₂ (λ a b. a || b) (kept-tells v.items (all zero v (omega arith)) p) (some-tell apart (λ k d l. all (suc k) d (omega arith)) p)

  all-tell : (apart : List (Vec ℕ Global)) → All (λ (others : Vec ℕ Global). AreKept kept others.items) apart → (p : ℕ) → all_have kept apart (at p).chain p ≡ list_all (λ chain. is_in chain p) (map (auth_chain rows) (map (λ (others : Vec ℕ Global). others.items) apart))
  all-tell [] all p = refl
  all-tell (v ∷ apart) all p = ap₂ (λ a b. a && b) (kept-tells v.items (all zero v (omega arith)) p) (all-tell apart (λ k d l. all (suc k) d (omega arith)) p)

  regrouped : (a b c : Bool) → (a && (b && c)) ≡ ((a && b) && c)
  regrouped true b c = refl
  regrouped false b c = refl

  pub difference-told : (shared : List ℕ) (apart : List (Vec ℕ Global)) → AreKept kept shared → All (λ (others : Vec ℕ Global). AreKept kept others.items) apart → (p : ℕ)
      → differs at kept shared apart p ≡ is_in_difference rows shared (map (λ (others : Vec ℕ Global). others.items) apart) p
  difference-told shared apart some all p =
      regrouped (any_has kept apart (at p).chain p) (not (all_have kept apart (at p).chain p)) (not (some_has kept shared (at p).chain p))
      ∙ (λ i. (some-tell apart all p i && not (all-tell apart all p i)) && not (kept-tells shared some p i))

  -- an answer from what is kept
  pub answer-told : (starts : List ℕ) (p : ℕ) (answer : Option Bool) → IfSome answer (λ _. AreKept kept starts) → IfSome answer (λ b. b ≡ some_has kept starts (at p).chain p) → IfSome answer (λ b. b ≡ is_in (auth_chain rows starts) p)
  answer-told starts p None k e = tt
  answer-told starts p (Some b) k e = e ∙ kept-tells starts k p

  pub found-told : (shared : List ℕ) (apart : List (Vec ℕ Global)) (found : Option (Vec ℕ Global)) → IfSome found (λ _. AreKept kept shared) → IfSome found (λ _. All (λ (others : Vec ℕ Global). AreKept kept others.items) apart)
      → IfSome found (λ events. ((r : ℕ) → AreEnds at (rows_of (kept r))) → (p : ℕ) → is_in events.items p ≡ differs at kept shared apart p)
      → IfSome found (λ events. (p : ℕ) → is_in events.items p ≡ is_in_difference rows shared (map (λ (others : Vec ℕ Global). others.items) apart) p)
  found-told shared apart None some all h = tt
  found-told shared apart (Some events) some all h = λ p. h chains.ends p ∙ difference-told shared apart some all p

-- ---- one row more

module _ (meets longer : ℕ → ℕ → Bool) (cites : ℕ → List ℕ) (met : AreMet cites longer) (at : ℕ → ChainPlace) (kept : ℕ → Option (Vec Reached Global)) (n : ℕ) (chains : AreChains meets at kept) (same : (r p : ℕ) → r < n → longer r p ≡ meets r p) where
  cited-lower : (q : ℕ) → is_in (cites n) q ≡ true → q < n
  cited-lower q e = met.down n q (met.step n q ∙ any-in (λ x. (x == q) || longer x q) (cites n) q e (or_left (q == q) (longer q q) (eq-eqb q q refl)))

  module _ (each : AreKept kept (cites n)) where
    cited-same : (p q : ℕ) → is_in (cites n) q ≡ true → ((q == p) || longer q p) ≡ cited_has at kept q (at p).chain p
    cited-same p q m =
        one_answer ((q == p) || longer q p) (cited_has at kept q (at p).chain p) (λ e. to (or_cases (q == p) (longer q p) e))
        (λ e. from (or_cases ((at q).chain == (at p).chain && nat_le p q) (has_row (rows_of (kept q)) (at p).chain p) e))
      where
        exact_at : longer q p ≡ has_row (rows_of (kept q)) (at p).chain p
        exact_at = same q p (cited-lower q m) ∙ chains.exact q (each q m) p

        to : ((q == p) ≡ true) ⊎ (longer q p ≡ true) → cited_has at kept q (at p).chain p ≡ true
        to (inl e) =
            let f : q ≡ p = eqb-true q p e in
            or_left ((at q).chain == (at p).chain && nat_le p q) (has_row (rows_of (kept q)) (at p).chain p)
            (ap₂ (λ a b. a && b) (eq-eqb (at q).chain (at p).chain (ap (λ z. (at z).chain) f)) (let g : p ≤ q = omega arith in grind (arith, nat_tests)))
        to (inr e) = or_right ((at q).chain == (at p).chain && nat_le p q) (has_row (rows_of (kept q)) (at p).chain p) (sym exact_at ∙ e)

        own : ((at q).chain ≡ (at p).chain) → p ≤ q → (p < q) ⊎ (q ≤ p) → ((q == p) || longer q p) ≡ true
        own c l (inl k) = or_right (q == p) (longer q p) (same q p (cited-lower q m) ∙ chains.ordered p q (sym c) k)
        own c l (inr k) = or_left (q == p) (longer q p) (eq-eqb q p (omega arith))

        parts : (a b : Bool) → (at q).chain == (at p).chain ≡ a → nat_le p q ≡ b → (a && b) ≡ true → ((q == p) || longer q p) ≡ true
        parts true true f g e = own (eqb-true (at q).chain (at p).chain f) (grind (arith, nat_tests)) (cases_lt p q)
        parts true false f g e = absurd (cc e)
        parts false b f g e = absurd (cc e)

        from : (((at q).chain == (at p).chain && nat_le p q) ≡ true) ⊎ (has_row (rows_of (kept q)) (at p).chain p ≡ true) → ((q == p) || longer q p) ≡ true
        from (inl e) = parts ((at q).chain == (at p).chain) (nat_le p q) refl refl e
        from (inr e) = or_right (q == p) (longer q p) (exact_at ∙ e)

    -- its auth chain, by what is kept for those that it cites
    pub met-cited : (p : ℕ) → longer n p ≡ some_cited_has at kept (cites n) (at p).chain p
    met-cited p = met.step n p ∙ any-same (λ q. (q == p) || longer q p) (λ q. cited_has at kept q (at p).chain p) (cites n) (λ q m. cited-same p q m)

module _ (meets longer : ℕ → ℕ → Bool) (cites : ℕ → List ℕ) (met : AreMet cites longer) (at : ℕ → ChainPlace) (kept after : ℕ → Option (Vec Reached Global)) (n : ℕ)
    (chains : AreChains meets at kept) (same : (r p : ℕ) → r < n → longer r p ≡ meets r p) (beyond : (p : ℕ) → n ≤ p → at p ≡ alone p) (kept_before : (r : ℕ) → r < n → after r ≡ kept r) (kept_beyond : (r : ℕ) → n < r → after r ≡ None)
    (told : (found : Vec Reached Global) → after n ≡ Some found → AreReached at kept (cites n) found.items) where
  kept-cases : (r : ℕ) → is_some (after r) ≡ true → (r < n) ⊎ (r ≡ n)
  kept-cases r k = by (cases_lt r n) (cases_lt n r)
    where
      by : (r < n) ⊎ (n ≤ r) → (n < r) ⊎ (r ≤ n) → (r < n) ⊎ (r ≡ n)
      by (inl l) m = inl l
      by (inr l) (inl m) = absurd (cc (sym k ∙ ap is_some (kept_beyond r m)))
      by (inr l) (inr m) = inr (omega arith)

  module _ (found : Vec Reached Global) (is : after n ≡ Some found) (reach : AreReached at kept (cites n) found.items) where
    exact-new : (p : ℕ) → longer n p ≡ has_row (rows_of (after n)) (at p).chain p
    exact-new p =
        met-cited meets longer cites met at kept n chains same reach.kept_each p ∙ sym (reach.rows (at p).chain p)
        ∙ ap (λ o. has_row (rows_of o) (at p).chain p) (sym is)

    unmet-new : (q : ℕ) → (at q).is_cited ≡ false → longer n q ≡ false
    unmet-new q e = no-row (longer n q) (λ h. let w = any-to (λ x. (x == q) || longer x q) (cites n) (sym (met.step n q) ∙ h) in by w.0 w.1 (or_cases (w.0 == q) (longer w.0 q) w.2))
      where
        by : (x : ℕ) → is_in (cites n) x ≡ true → ((x == q) ≡ true) ⊎ (longer x q ≡ true) → ⊥
        by x m (inl k) = not-both (at x).is_cited (reach.cited x m) (ap (λ z. (at z).is_cited) (eqb-true x q k) ∙ e)
        by x m (inr k) = not-both (longer x q) k (same x q (cited-lower meets longer cites met at kept n chains same x m) ∙ chains.unmet q e x (reach.kept_each x m))

    ends-new : AreEnds at (rows_of (after n))
    ends-new = subst (λ o. AreEnds at (rows_of o)) (sym is) (reach.ends chains.ends)

  there : (o : Option (Vec Reached Global)) → is_some o ≡ true → (found : Vec Reached Global) × (o ≡ Some found)
  there None e = absurd (cc e)
  there (Some v) e = (v, refl)

  longer-ordered : (p q : ℕ) → (at p).chain ≡ (at q).chain → p < q → longer q p ≡ true
  longer-ordered p q e l = by (cases_lt q n)
    where
      by : (q < n) ⊎ (n ≤ q) → longer q p ≡ true
      by (inl k) = same q p k ∙ chains.ordered p q e l
      by (inr k) =
          let a : (at q).chain ≡ q = ap (λ s. s.chain) (beyond q k) in
          let b : (at p).chain ≤ p = chains.down p in
          let f : (at p).chain ≡ (at q).chain = e in
          absurd (omega arith)

  longer-exact : (r : ℕ) → is_some (after r) ≡ true → (p : ℕ) → longer r p ≡ has_row (rows_of (after r)) (at p).chain p
  longer-exact r k p = by (kept-cases r k)
    where
      new : is_some (after n) ≡ true → longer n p ≡ has_row (rows_of (after n)) (at p).chain p
      new m = let w = there (after n) m in exact-new w.0 w.1 (told w.0 w.1) p

      by : (r < n) ⊎ (r ≡ n) → longer r p ≡ has_row (rows_of (after r)) (at p).chain p
      by (inl l) = same r p l ∙ chains.exact r (ap is_some (sym (kept_before r l)) ∙ k) p ∙ ap (λ o. has_row (rows_of o) (at p).chain p) (sym (kept_before r l))
      by (inr e) = subst (λ z. longer z p ≡ has_row (rows_of (after z)) (at p).chain p) (sym e) (new (ap (λ z. is_some (after z)) (sym e) ∙ k))

  longer-unmet : (q : ℕ) → (at q).is_cited ≡ false → (r : ℕ) → is_some (after r) ≡ true → longer r q ≡ false
  longer-unmet q e r k = by (kept-cases r k)
    where
      new : is_some (after n) ≡ true → longer n q ≡ false
      new m = let w = there (after n) m in unmet-new w.0 w.1 (told w.0 w.1) q e

      by : (r < n) ⊎ (r ≡ n) → longer r q ≡ false
      by (inl l) = same r q l ∙ chains.unmet q e r (ap is_some (sym (kept_before r l)) ∙ k)
      by (inr f) = ap (λ z. longer z q) f ∙ new (ap (λ z. is_some (after z)) (sym f) ∙ k)

  no-ends : AreEnds at []
  no-ends k d l = absurd (omega arith)

  longer-ends : (r : ℕ) → AreEnds at (rows_of (after r))
  longer-ends r = by (is_some (after r)) refl
    where
      none : (o : Option (Vec Reached Global)) → is_some o ≡ false → AreEnds at (rows_of o)
      none None e = no-ends
      none (Some v) e = absurd (cc e)

      new : is_some (after n) ≡ true → AreEnds at (rows_of (after n))
      new m = let w = there (after n) m in ends-new w.0 w.1 (told w.0 w.1)

      some : (r < n) ⊎ (r ≡ n) → is_some (after r) ≡ true → AreEnds at (rows_of (after r))
      some (inl l) k = subst (λ o. AreEnds at (rows_of o)) (sym (kept_before r l)) (chains.ends r)
      some (inr e) k = subst (λ z. AreEnds at (rows_of (after z))) (sym e) (new (ap (λ z. is_some (after z)) (sym e) ∙ k))

      by : (b : Bool) → is_some (after r) ≡ b → AreEnds at (rows_of (after r))
      by true k = some (kept-cases r k) k
      by false k = none (after r) k

  pub chains-longer : AreChains longer at after
  chains-longer = record {
    linked = chains.linked;
    ordered = longer-ordered;
    exact = longer-exact;
    ends = longer-ends;
    unmet = longer-unmet;
    own = chains.own;
    only = chains.only;
    last = chains.last;
    down = chains.down;
  }

-- ---- one row less

module _ (meets shorter : ℕ → ℕ → Bool) (lower : (r p : ℕ) → meets r p ≡ true → p < r) (at before : ℕ → ChainPlace) (kept after : ℕ → Option (Vec Reached Global)) (n : ℕ)
    (chains : AreChains meets at kept) (same : (r p : ℕ) → r < n → shorter r p ≡ meets r p) (places : (p : ℕ) → p < n → before p ≡ at p) (beyond : (p : ℕ) → n ≤ p → before p ≡ alone p) (kept_before : (r : ℕ) → r < n → after r ≡ kept r) (kept_beyond : (r : ℕ) → n ≤ r → after r ≡ None) where
  chain-before : (p : ℕ) → p < n → (before p).chain ≡ (at p).chain
  chain-before p l = ap (λ s. s.chain) (places p l)

  chain-beyond : (p : ℕ) → n ≤ p → (before p).chain ≡ p
  chain-beyond p l = ap (λ s. s.chain) (beyond p l)

  shorter-down : (p : ℕ) → (before p).chain ≤ p
  shorter-down p = by (cases_lt p n)
    where
      by : (p < n) ⊎ (n ≤ p) → (before p).chain ≤ p
      by (inl l) = subst (λ c. c ≤ p) (sym (chain-before p l)) (chains.down p)
      by (inr l) = let e : (before p).chain ≡ p = chain-beyond p l in omega arith

  kept-here : (r : ℕ) → is_some (after r) ≡ true → r < n
  kept-here r k = by (cases_lt r n)
    where
      by : (r < n) ⊎ (n ≤ r) → r < n
      by (inl l) = l
      by (inr l) = absurd (cc (sym k ∙ ap is_some (kept_beyond r l)))

  has-below : (p b : ℕ) → (before p).below ≡ Some b → (p < n) × ((at p).below ≡ Some b)
  has-below p b e = by (cases_lt p n)
    where
      by : (p < n) ⊎ (n ≤ p) → (p < n) × ((at p).below ≡ Some b)
      by (inl l) = (l, ap (λ s. s.below) (sym (places p l)) ∙ e)
      by (inr l) = absurd (cc (sym (ap (λ s. s.below) (beyond p l)) ∙ e))

  shorter-below : (p b : ℕ) → (before p).below ≡ Some b → (before b).chain ≡ (before p).chain
  shorter-below p b e =
      let w = has-below p b e in
      let l : b < p = chains.linked.lower p b w.1 in
      let m : p < n = w.0 in
      chain-before b (omega arith) ∙ chains.linked.below p b w.1 ∙ sym (chain-before p m)

  shorter-next : (p b : ℕ) → (before p).below ≡ Some b → (x : ℕ) → b < x → (before x).chain ≡ (before p).chain → p ≤ x
  shorter-next p b e x l s = by (cases_lt x n)
    where
      w : (p < n) × ((at p).below ≡ Some b)
      w = has-below p b e

      by : (x < n) ⊎ (n ≤ x) → p ≤ x
      by (inl k) = chains.linked.next p b w.1 x l (sym (chain-before x k) ∙ s ∙ chain-before p w.0)
      by (inr k) = let m : p < n = w.0 in omega arith

  shorter-first : (p : ℕ) → (before p).below ≡ None → (x : ℕ) → (before x).chain ≡ (before p).chain → p ≤ x
  shorter-first p e x s = by (cases_lt p n) (cases_lt x n)
    where
      by : (p < n) ⊎ (n ≤ p) → (x < n) ⊎ (n ≤ x) → p ≤ x
      by (inl l) (inl k) = chains.linked.first p (ap (λ t. t.below) (sym (places p l)) ∙ e) x (sym (chain-before x k) ∙ s ∙ chain-before p l)
      by (inl l) (inr k) = omega arith
      by (inr l) k = let a : (before p).chain ≡ p = chain-beyond p l in let b : (before x).chain ≤ x = shorter-down x in let t : (before x).chain ≡ (before p).chain = s in omega arith

  shorter-ordered : (p q : ℕ) → (before p).chain ≡ (before q).chain → p < q → shorter q p ≡ true
  shorter-ordered p q e l = by (cases_lt q n)
    where
      by : (q < n) ⊎ (n ≤ q) → shorter q p ≡ true
      by (inl k) = same q p k ∙ chains.ordered p q (sym (chain-before p (omega arith)) ∙ e ∙ chain-before q k) l
      by (inr k) = let a : (before q).chain ≡ q = chain-beyond q k in let b : (before p).chain ≤ p = shorter-down p in let t : (before p).chain ≡ (before q).chain = e in absurd (omega arith)

  -- no row from the number on is met
  none-beyond : (r p : ℕ) → r < n → n ≤ p → meets r p ≡ false
  none-beyond r p l k = no-row (meets r p) (λ e. let m : p < r = lower r p e in absurd (omega arith))

  shorter-exact : (r : ℕ) → is_some (after r) ≡ true → (p : ℕ) → shorter r p ≡ has_row (rows_of (after r)) (before p).chain p
  shorter-exact r k p = same r p low ∙ by (cases_lt p n) ∙ ap (λ o. has_row (rows_of o) (before p).chain p) (sym (kept_before r low))
    where
      low : r < n
      low = kept-here r k

      there : is_some (kept r) ≡ true
      there = ap is_some (sym (kept_before r low)) ∙ k

      none : n ≤ p → has_row (rows_of (kept r)) p p ≡ true → ⊥
      none m e =
          let w = end-of at (rows_of (kept r)) (chains.ends r) p p e in
          let g : meets r w.end ≡ true = chains.exact r there w.end ∙ ap (λ c. has_row (rows_of (kept r)) c w.end) w.chained ∙ w.among in
          let a : w.end < r = lower r w.end g in
          let b : p ≤ w.end = w.later in
          let d : r < n = low in
          absurd (omega arith)

      by : (p < n) ⊎ (n ≤ p) → meets r p ≡ has_row (rows_of (kept r)) (before p).chain p
      by (inl m) = chains.exact r there p ∙ ap (λ c. has_row (rows_of (kept r)) c p) (sym (chain-before p m))
      by (inr m) = none-beyond r p low m ∙ sym (ap (λ c. has_row (rows_of (kept r)) c p) (chain-beyond p m) ∙ no-row (has_row (rows_of (kept r)) p p) (none m))

  shorter-ends : (r : ℕ) → AreEnds before (rows_of (after r))
  shorter-ends r = by (is_some (after r)) refl
    where
      none : (o : Option (Vec Reached Global)) → is_some o ≡ false → AreEnds before (rows_of o)
      none None e k d l = absurd (omega arith)
      none (Some v) e k d l = absurd (cc e)

      some : is_some (after r) ≡ true → AreEnds before (rows_of (after r))
      some k =
          let low : r < n = kept-here r k in
          subst (λ o. AreEnds before (rows_of o)) (sym (kept_before r low))
          (ends-same at before (rows_of (kept r)) (chains.ends r)
          (λ e h. let g : e < r = lower r e (chains.exact r (ap is_some (sym (kept_before r low)) ∙ k) e ∙ h) in chain-before e (omega arith)))

      by : (b : Bool) → is_some (after r) ≡ b → AreEnds before (rows_of (after r))
      by true k = some k
      by false k = none (after r) k

  shorter-unmet : (q : ℕ) → (before q).is_cited ≡ false → (r : ℕ) → is_some (after r) ≡ true → shorter r q ≡ false
  shorter-unmet q e r k = same r q (kept-here r k) ∙ by (cases_lt q n)
    where
      by : (q < n) ⊎ (n ≤ q) → meets r q ≡ false
      by (inl l) = chains.unmet q (ap (λ s. s.is_cited) (sym (places q l)) ∙ e) r (ap is_some (sym (kept_before r (kept-here r k))) ∙ k)
      by (inr l) = none-beyond r q (kept-here r k) l

  shorter-own : (q : ℕ) → (before q).is_cited ≡ false → (before q).chain ≡ q
  shorter-own q e = by (cases_lt q n)
    where
      by : (q < n) ⊎ (n ≤ q) → (before q).chain ≡ q
      by (inl l) = chain-before q l ∙ chains.own q (ap (λ s. s.is_cited) (sym (places q l)) ∙ e)
      by (inr l) = chain-beyond q l

  shorter-only : (q : ℕ) → (before q).is_cited ≡ false → (x : ℕ) → (before x).chain ≡ q → x ≡ q
  shorter-only q e x s = by (cases_lt q n) (cases_lt x n)
    where
      by : (q < n) ⊎ (n ≤ q) → (x < n) ⊎ (n ≤ x) → x ≡ q
      by (inl l) (inl k) = chains.only q (ap (λ t. t.is_cited) (sym (places q l)) ∙ e) x (sym (chain-before x k) ∙ s)
      by (inl l) (inr k) = sym (chain-beyond x k) ∙ s
      by (inr l) (inl k) = let a : (before x).chain ≤ x = shorter-down x in let t : (before x).chain ≡ q = s in absurd (omega arith)
      by (inr l) (inr k) = sym (chain-beyond x k) ∙ s

  shorter-last : (p : ℕ) → (before p).is_followed ≡ false → (x : ℕ) → (before x).chain ≡ (before p).chain → x ≤ p
  shorter-last p e x s = by (cases_lt p n) (cases_lt x n)
    where
      by : (p < n) ⊎ (n ≤ p) → (x < n) ⊎ (n ≤ x) → x ≤ p
      by (inl l) (inl k) = chains.last p (ap (λ t. t.is_followed) (sym (places p l)) ∙ e) x (sym (chain-before x k) ∙ s ∙ chain-before p l)
      by (inl l) (inr k) =
          let a : (before x).chain ≡ x = chain-beyond x k in let b : (before p).chain ≤ p = shorter-down p in let t : (before x).chain ≡ (before p).chain = s in absurd (omega arith)
      by (inr l) (inl k) = omega arith
      by (inr l) (inr k) = let a : x ≡ p = sym (chain-beyond x k) ∙ s ∙ chain-beyond p l in omega arith

  pub chains-shorter : AreChains shorter before after
  chains-shorter = record {
    linked = record { lower = λ p b e. chains.linked.lower p b (has-below p b e).1; below = shorter-below; next = shorter-next; first = shorter-first };
    ordered = shorter-ordered;
    exact = shorter-exact;
    ends = shorter-ends;
    unmet = shorter-unmet;
    own = shorter-own;
    only = shorter-only;
    last = shorter-last;
    down = shorter-down;
  }

-- ---- lists of places and of what is kept

lists-apart : {A : Type 0} (xs : List A) (y d : A) (p : ℕ) → p < length xs → get_or (xs ++ y ∷ []) p d ≡ get_or xs p d
lists-apart [] y d p l = absurd (omega arith)
lists-apart (x ∷ xs) y d zero l = refl
lists-apart (x ∷ xs) y d (suc p) l = lists-apart xs y d p (omega arith)

pub lists-last : {A : Type 0} (xs : List A) (y d : A) → get_or (xs ++ y ∷ []) (length xs) d ≡ y
lists-last [] y d = refl
lists-last (x ∷ xs) y d = lists-last xs y d

lists-past : {A : Type 0} (xs : List A) (y d : A) (p : ℕ) → length xs < p → get_or (xs ++ y ∷ []) p d ≡ d
lists-past [] y d zero l = absurd (omega arith)
lists-past [] y d (suc p) l = refl
lists-past (x ∷ xs) y d zero l = absurd (omega arith)
lists-past (x ∷ xs) y d (suc p) l = lists-past xs y d p (omega arith)

pub lists-begin : {A : Type 0} (xs ys : List A) (d : A) (p : ℕ) → p < length xs → get_or (xs ++ ys) p d ≡ get_or xs p d
lists-begin [] ys d p l = absurd (omega arith)
lists-begin (x ∷ xs) ys d zero l = refl
lists-begin (x ∷ xs) ys d (suc p) l = lists-begin xs ys d p (omega arith)

beyond-all : {A : Type 0} (xs : List A) (d : A) (p : ℕ) → length xs ≤ p → get_or xs p d ≡ d
beyond-all [] d p l = refl
beyond-all (x ∷ xs) d zero l = absurd (omega arith)
beyond-all (x ∷ xs) d (suc p) l = beyond-all xs d p (omega arith)

-- a place alone at the end is as none
pub places-push : (places : List ChainPlace) (n : ℕ) → n ≡ length places → (p : ℕ) → place_at (places ++ alone n ∷ []) p ≡ place_at places p
places-push places n same p = by (cases_lt p (length places)) (cases_lt (length places) p)
  where
    by : (p < length places) ⊎ (length places ≤ p) → (length places < p) ⊎ (p ≤ length places) → place_at (places ++ alone n ∷ []) p ≡ place_at places p
    by (inl l) m = lists-apart places (alone n) (alone p) p l
    by (inr l) (inl m) = lists-past places (alone n) (alone p) p m ∙ sym (beyond-all places (alone p) p l)
    by (inr l) (inr m) =
        let e : p ≡ length places = omega arith in
        subst (λ q. place_at (places ++ alone n ∷ []) q ≡ place_at places q) (sym e)
        (lists-last places (alone n) (alone (length places)) ∙ ap alone same ∙ sym (beyond-all places (alone (length places)) (length places) (omega arith)))

pub no-chains : (meets : ℕ → ℕ → Bool) → AreChains meets (place_at []) (kept_at [])
no-chains meets = record {
  linked = record { lower = λ p b e. absurd (cc e); below = λ p b e. absurd (cc e); next = λ p b e. absurd (cc e); first = λ p e x s. (let t : x ≡ p = s in omega arith) };
  ordered = λ p q e l. (let t : p ≡ q = e in absurd (omega arith));
  exact = λ r k. absurd (cc k);
  ends = λ r k d l. absurd (omega arith);
  unmet = λ q e r k. absurd (cc k);
  own = λ q e. refl;
  only = λ q e x s. s;
  last = λ l e x s. (let t : x ≡ l = s in omega arith);
  down = λ p. omega arith;
}

-- ---- the rows with one more, and with one less

pub chain-longer : (rows : List Row) (r : Row) → IsSound rows → IsSound (rows ++ r ∷ []) → (q : ℕ) → q < length rows → auth_chain (rows ++ r ∷ []) (q ∷ []) ≡ auth_chain rows (q ∷ [])
chain-longer rows r sound after q l = auth_chain-longer rows (rows ++ r ∷ []) (longer-push rows r sound after) (q ∷ []) known
  where
    known : AreEvents rows (q ∷ [])
    known x (inl e) = subst (λ z. z < length rows) (sym e) l
    known x (inr e) = absurd e

pub met-longer : (rows : List Row) (r : Row) → IsSound rows → IsSound (rows ++ r ∷ []) → (q p : ℕ) → q < length rows → met_in (rows ++ r ∷ []) q p ≡ met_in rows q p
met-longer rows r sound after q p l = ap (λ xs. is_in xs p) (chain-longer rows r sound after q l)

pub chains-push : (rows : List Row) (r : Row) (places : List ChainPlace) (reached : List (Option (Vec Reached Global))) (found : Option (Vec Reached Global)) (n : ℕ) → n ≡ length rows → IsSound rows → IsSound (rows ++ r ∷ []) → length places ≡ length rows → length reached ≡ length rows
    → AreChains (met_in rows) (place_at places) (kept_at reached) → (events : List ℕ) → auth_events (rows ++ r ∷ []) (event (rows ++ r ∷ []) (length rows)) ≡ events → IfSome found (λ own. AreReached (place_at places) (kept_at reached) events own.items)
    → AreChains (met_in (rows ++ r ∷ [])) (place_at (places ++ alone n ∷ [])) (kept_at (reached ++ found ∷ []))
chains-push rows r places reached found n number sound after places_len reached_len chains events cited told =
    subst (λ f. AreChains (met_in (rows ++ r ∷ [])) f (kept_at (reached ++ found ∷ []))) (λ i p. sym (places-push places n (number ∙ sym places_len) p) i)
    (chains-longer (met_in rows) (met_in (rows ++ r ∷ [])) (λ p. auth_events (rows ++ r ∷ []) (event (rows ++ r ∷ []) p)) (met-rows (rows ++ r ∷ []) after.auth) (place_at places) (kept_at reached) (kept_at (reached ++ found ∷ [])) (length rows)
    chains (met-longer rows r sound after)
    (λ p l. beyond-all places (alone p) p (let a : length places ≡ length rows = places_len in omega arith))
    (λ q l. lists-apart reached found None q (let a : length reached ≡ length rows = reached_len in omega arith))
    (λ q l. lists-past reached found None q (let a : length reached ≡ length rows = reached_len in omega arith))
    (λ own e. here own found (sym (lists-last reached found None) ∙ ap (λ k. kept_at (reached ++ found ∷ []) k) reached_len ∙ e) told))
  where
    here : (own : Vec Reached Global) (o : Option (Vec Reached Global)) → o ≡ Some own → IfSome o (λ own. AreReached (place_at places) (kept_at reached) events own.items) → AreReached (place_at places) (kept_at reached) (auth_events (rows ++ r ∷ []) (event (rows ++ r ∷ []) (length rows))) own.items
    here own o e t = subst (λ qs. AreReached (place_at places) (kept_at reached) qs own.items) (sym cited) (subst (λ z. IfSome z (λ own. AreReached (place_at places) (kept_at reached) events own.items)) e t)

pub chains-pop : (rows : List Row) (r : Row) (places more : List ChainPlace) (reached later : List (Option (Vec Reached Global))) → IsSound rows → IsSound (rows ++ r ∷ []) → length places ≡ length rows → length reached ≡ length rows
    → AreChains (met_in (rows ++ r ∷ [])) (place_at (places ++ more)) (kept_at (reached ++ later)) → AreChains (met_in rows) (place_at places) (kept_at reached)
chains-pop rows r places more reached later sound after places_len reached_len chains =
    chains-shorter (met_in (rows ++ r ∷ [])) (met_in rows) (met-rows (rows ++ r ∷ []) after.auth).down (place_at (places ++ more)) (place_at places) (kept_at (reached ++ later)) (kept_at reached) (length rows) chains
    (λ q p l. sym (met-longer rows r sound after q p l))
    (λ p l. sym (lists-begin places more (alone p) p (let a : length places ≡ length rows = places_len in omega arith)))
    (λ p l. beyond-all places (alone p) p (let a : length places ≡ length rows = places_len in omega arith))
    (λ q l. sym (lists-begin reached later None q (let a : length reached ≡ length rows = reached_len in omega arith)))
    (λ q l. beyond-all reached None q (let a : length reached ≡ length rows = reached_len in omega arith))

-- ---- the index of a graph

pub kept-none : (chains : AuthChains) → chains.places.items ≡ [] → chains.reached.items ≡ [] → AreKeptFor [] chains
kept-none chains places reached = record {
  places_len = ap length places;
  reached_len = ap length reached;
  right = subst (λ xs. AreChains (met_in []) (place_at xs) (kept_at chains.reached.items)) (sym places) (subst (λ ys. AreChains (met_in []) (place_at []) (kept_at ys)) (sym reached) (no-chains (met_in [])));
  distinct = λ r. subst (λ ys. AreDistinct (rows_of (kept_at ys r))) (sym reached) distinct-none;
  short = λ r l. absurd (omega arith);
}

-- rows that are cited have got their places
pub kept-cited : (rows : List Row) (prev auth : List (Vec ℕ Global)) (numbers : List (List ℕ × ℕ)) (naming : List ℕ → List ℕ) (chains after : AuthChains) (bounds : List ℕ) → IsIndexed rows prev auth numbers naming chains bounds
    → length after.places.items ≡ length chains.places.items → after.reached.items ≡ chains.reached.items
    → ((meets : ℕ → ℕ → Bool) → AreMet (cited auth) meets → AreChains meets (place_at chains.places.items) (kept_at chains.reached.items) → AreChains meets (place_at after.places.items) (kept_at chains.reached.items))
    → AreKeptFor rows after
kept-cited rows prev auth numbers naming chains after bounds indexed len reached step = record {
  places_len = len ∙ indexed.auth_chains.places_len;
  reached_len = ap length reached ∙ indexed.auth_chains.reached_len;
  right = subst (λ ys. AreChains (met_in rows) (place_at after.places.items) (kept_at ys)) (sym reached)
      (step (met_in rows) (subst (λ f. AreMet f (met_in rows)) (λ i p. sym (indexed.auth_edges p) i) (met-rows rows indexed.auth_down)) indexed.auth_chains.right);
  distinct = λ r. subst (λ ys. AreDistinct (rows_of (kept_at ys r))) (sym reached) (indexed.auth_chains.distinct r);
  short = λ r l few. subst (λ ys. is_some (kept_at ys r) ≡ true) (sym reached) (indexed.auth_chains.short r l few);
}

-- what is kept with one more
distinct-at-push : (xs : List (Option (Vec Reached Global))) (found : Option (Vec Reached Global)) → IfSome found (λ own. AreDistinct own.items) → ((r : ℕ) → AreDistinct (rows_of (kept_at xs r))) → (r : ℕ) → AreDistinct (rows_of (kept_at (xs ++ found ∷ []) r))
distinct-at-push [] None own all zero = distinct-none
distinct-at-push [] (Some v) own all zero = own
distinct-at-push [] found own all (suc r) = distinct-none
distinct-at-push (x ∷ xs) found own all zero = all zero
distinct-at-push (x ∷ xs) found own all (suc r) = distinct-at-push xs found own (λ q. all (suc q)) r

pub kept-push : (rows : List Row) (r : Row) (chains after : AuthChains) (n : ℕ) (found : Option (Vec Reached Global)) (events : List ℕ) → n ≡ length rows → IsSound (rows ++ r ∷ []) → AreKeptFor rows chains
    → auth_events (rows ++ r ∷ []) (event (rows ++ r ∷ []) (length rows)) ≡ events → IfSome found (λ own. AreReached (place_at chains.places.items) (kept_at chains.reached.items) events own.items)
    → IfSome found (λ own. AreDistinct own.items) → (length (auth_chain (rows ++ r ∷ []) (length rows ∷ [])) ≤ most_chains → is_some found ≡ true)
    → after.places.items ≡ chains.places.items ++ alone n ∷ [] → after.reached.items ≡ chains.reached.items ++ found ∷ [] → AreKeptFor (rows ++ r ∷ []) after
kept-push rows r chains after n found events number sound kept cited told distinct short places reached = record {
  places_len = ap length places ∙ one_more chains.places.items (alone n) kept.places_len;
  reached_len = ap length reached ∙ one_more chains.reached.items found kept.reached_len;
  right =
      subst (λ xs. AreChains (met_in (rows ++ r ∷ [])) (place_at xs) (kept_at after.reached.items)) (sym places)
      (subst (λ ys. AreChains (met_in (rows ++ r ∷ [])) (place_at (chains.places.items ++ alone n ∷ [])) (kept_at ys)) (sym reached)
      (chains-push rows r chains.places.items chains.reached.items found n number (sound-before rows r sound) sound kept.places_len kept.reached_len kept.right events cited told));
  distinct = λ q. subst (λ ys. AreDistinct (rows_of (kept_at ys q))) (sym reached) (distinct-at-push chains.reached.items found distinct kept.distinct q);
  short = λ q l few. by q l few (cases_lt q (length rows));
}
  where
    long : length chains.reached.items ≡ length rows
    long = kept.reached_len

    by : (q : ℕ) → q < length (rows ++ r ∷ []) → length (auth_chain (rows ++ r ∷ []) (q ∷ [])) ≤ most_chains → (q < length rows) ⊎ (length rows ≤ q) → is_some (kept_at after.reached.items q) ≡ true
    by q l few (inl k) =
        ap (λ ys. is_some (kept_at ys q)) reached ∙ ap is_some (lists-apart chains.reached.items found None q (let a = long in omega arith))
        ∙ kept.short q k (subst (λ xs. length xs ≤ most_chains) (chain-longer rows r (sound-before rows r sound) sound q k) few)
    by q l few (inr k) =
        let one : length (rows ++ r ∷ []) ≡ length rows + 1 = length-append rows (r ∷ []) in
        let e : q ≡ length rows = omega arith in
        let f : q ≡ length chains.reached.items = e ∙ sym long in
        ap (λ ys. is_some (kept_at ys q)) reached ∙ ap (λ z. is_some (kept_at (chains.reached.items ++ found ∷ []) z)) f ∙ ap is_some (lists-last chains.reached.items found None)
        ∙ short (subst (λ z. length (auth_chain (rows ++ r ∷ []) (z ∷ [])) ≤ most_chains) e few)

    one_more : {A : Type 0} (xs : List A) (x : A) → length xs ≡ length rows → length (xs ++ x ∷ []) ≡ length (rows ++ r ∷ [])
    one_more xs x e = length-append xs (x ∷ []) ∙ ap (λ k. k + 1) e ∙ sym (length-append rows (r ∷ []))

pub kept-pop : (rows : List Row) (r : Row) (chains after : AuthChains) (more : List ChainPlace) (later : List (Option (Vec Reached Global))) → IsSound (rows ++ r ∷ []) → AreKeptFor (rows ++ r ∷ []) chains
    → chains.places.items ≡ after.places.items ++ more → chains.reached.items ≡ after.reached.items ++ later → length after.places.items ≡ length rows → length after.reached.items ≡ length rows → AreKeptFor rows after
kept-pop rows r chains after more later sound kept places reached places_len reached_len = record {
  places_len = places_len;
  reached_len = reached_len;
  right =
      chains-pop rows r after.places.items more after.reached.items later (sound-before rows r sound) sound places_len reached_len
      (subst (λ xs. AreChains (met_in (rows ++ r ∷ [])) (place_at xs) (kept_at (after.reached.items ++ later))) places
      (subst (λ ys. AreChains (met_in (rows ++ r ∷ [])) (place_at chains.places.items) (kept_at ys)) reached kept.right));
  distinct = λ q. distinct-at q (cases_lt q (length after.reached.items));
  short = λ q l few.
      ap is_some (sym (lists-begin after.reached.items later None q (let a = reached_len in omega arith)))
      ∙ ap (λ ys. is_some (kept_at ys q)) (sym reached)
      ∙ kept.short q (let one : length (rows ++ r ∷ []) ≡ length rows + 1 = length-append rows (r ∷ []) in omega arith)
      (subst (λ xs. length xs ≤ most_chains) (sym (chain-longer rows r (sound-before rows r sound) sound q l)) few);
}
  where
    distinct-at : (q : ℕ) → (q < length after.reached.items) ⊎ (length after.reached.items ≤ q) → AreDistinct (rows_of (kept_at after.reached.items q))
    distinct-at q (inl l) =
        subst (λ o. AreDistinct (rows_of o)) (ap (λ ys. kept_at ys q) reached ∙ lists-begin after.reached.items later None q l) (kept.distinct q)
    distinct-at q (inr l) = subst (λ o. AreDistinct (rows_of o)) (sym (beyond-all after.reached.items None q l)) distinct-none
