-- The index of auth chains stays right as rows are cited, added and removed.
use Rattle.std.proofs.Common.{◌≡◌, ℕ, zero, suc, ◌+◌, ◌==◌, ◌≤◌, ◌<◌, nat_le, Bool, true, false, cond, ◌||◌, ◌&&◌, ◌⊎◌, inl, inr, List, [], ◌∷◌, length, get_or, take, Option, Some, None, is_some, refl, sym, ap, ap₂, subst, ◌∙◌, arith, eq-eqb, eqb-true, Vec}
use Rattle.std.proofs.lemmas.Bool.{cases_lt, eqb-false}
use Rattle.std.proofs.lemmas.Bool.Decides.{nat_tests}
use Rattle.std.proofs.lemmas.List.Folds.{list_any_more}
use Rattle.std.specs.List.{list_any}
use Rattle.std.specs.declared.alloc.Global.{Global}
use Rattle.mx_graph.specs.AuthChains.{begun, cited_has, following, has_row, rows_of, AreAdded, AreChains, AreEnds, AreKept, AreMet, AreReached, IsLast}
use Rattle.mx_graph.specs.Record.{is_in}
use Rattle.mx_graph.specs.declared.auth_chains.ChainPlace.{ChainPlace}
use Rattle.mx_graph.specs.declared.reached_rows.Reached.{Reached}
use Rattle.mx_graph.proofs.Closure.{or_cases, or_left, or_right}

pub not-both : (b : Bool) → b ≡ true → b ≡ false → ⊥
not-both b e f = cc (sym e ∙ f)

pub any-in : (f : ℕ → Bool) (xs : List ℕ) (x : ℕ) → is_in xs x ≡ true → f x ≡ true → list_any f xs ≡ true
any-in f [] x e k = absurd (cc e)
any-in f (y ∷ xs) x e k = by (any-in f xs x) (or_cases (y == x) (is_in xs x) e)
  where
    by : (is_in xs x ≡ true → f x ≡ true → list_any f xs ≡ true) → ((y == x) ≡ true) ⊎ (is_in xs x ≡ true) → (f y || list_any f xs) ≡ true
    by later (inl g) = or_left (f y) (list_any f xs) (ap f (eqb-true y x g) ∙ k)
    by later (inr g) = or_right (f y) (list_any f xs) (later g k)

-- tests that agree on the members of a list
pub any-same : (f g : ℕ → Bool) (xs : List ℕ) → ((x : ℕ) → is_in xs x ≡ true → f x ≡ g x) → list_any f xs ≡ list_any g xs
any-same f g [] h = refl
any-same f g (x ∷ xs) h = ap₂ (λ a b. a || b) (h x (or_left (x == x) (is_in xs x) (eq-eqb x x refl))) (any-same f g xs (λ y e. h y (or_right (x == y) (is_in xs y) e)))

-- ---- rows of chains

row-parts : (c chain p last : ℕ) → ((c == chain) && nat_le p last) ≡ true → (c ≡ chain) × (p ≤ last)
row-parts c chain p last e = by (c == chain) (nat_le p last) refl refl e
  where
    by : (a b : Bool) → (c == chain) ≡ a → nat_le p last ≡ b → (a && b) ≡ true → (c ≡ chain) × (p ≤ last)
    by true true f g h = (eqb-true c chain f, grind (arith, nat_tests))
    by true false f g h = absurd (cc h)
    by false b f g h = absurd (cc h)

-- a row of a chain that is among some rows comes before one of them, which is of that chain
pub record HasEnd (at : ℕ → ChainPlace) (reached : List Reached) (chain p : ℕ) : Type 0 where
  pub end : ℕ
  pub later : p ≤ end
  pub chained : (at end).chain ≡ chain
  pub among : has_row reached chain end ≡ true

le-same : (n : ℕ) → nat_le n n ≡ true
le-same n = grind (arith, nat_tests)

pub end-of : (at : ℕ → ChainPlace) (reached : List Reached) → AreEnds at reached → (chain p : ℕ) → has_row reached chain p ≡ true → HasEnd at reached chain p
end-of at [] ends chain p e = absurd (cc e)
end-of at (r ∷ reached) ends chain p e = by (end-of at reached (λ k d l. ends (suc k) d (omega arith)) chain p) (or_cases ((r.chain == chain) && nat_le p r.last) (has_row reached chain p) e)
  where
    by : (has_row reached chain p ≡ true → HasEnd at reached chain p) → (((r.chain == chain) && nat_le p r.last) ≡ true) ⊎ (has_row reached chain p ≡ true) → HasEnd at (r ∷ reached) chain p
    by more (inl k) =
        let parts = row-parts r.chain chain p r.last k in
        record {
          end = r.last;
          later = parts.1;
          chained = ends zero r (omega arith) ∙ parts.0;
          among = or_left ((r.chain == chain) && nat_le r.last r.last) (has_row reached chain r.last) (ap₂ (λ a b. a && b) (eq-eqb r.chain chain parts.0) (le-same r.last));
        }
    by more (inr k) = let w = more k in record { end = w.end; later = w.later; chained = w.chained; among = or_right ((r.chain == chain) && nat_le w.end r.last) (has_row reached chain w.end) w.among }

pub no-row : (b : Bool) → (b ≡ true → ⊥) → b ≡ false
no-row true h = absurd (h refl)
no-row false h = refl

-- the last rows of some chains, where the places of other rows change
pub ends-same : (at new : ℕ → ChainPlace) (reached : List Reached) → AreEnds at reached → ((e : ℕ) → has_row reached (at e).chain e ≡ true → (new e).chain ≡ (at e).chain) → AreEnds new reached
ends-same at new [] ends same k d l = absurd (omega arith)
ends-same at new (r ∷ reached) ends same zero d l =
    let here : (at r.last).chain ≡ r.chain = ends zero r (omega arith) in
    same r.last (or_left ((r.chain == (at r.last).chain) && nat_le r.last r.last) (has_row reached (at r.last).chain r.last) (ap₂ (λ a b. a && b) (eq-eqb r.chain (at r.last).chain (sym here)) (le-same r.last))) ∙ here
ends-same at new (r ∷ reached) ends same (suc k) d l =
    ends-same at new reached (λ j e m. ends (suc j) e (omega arith)) (λ e h. same e (or_right ((r.chain == (at e).chain) && nat_le e r.last) (has_row reached (at e).chain e) h)) k d (omega arith)

-- ---- a row begins a chain

module _ (meets : ℕ → ℕ → Bool) (at : ℕ → ChainPlace) (kept : ℕ → Option (Vec Reached Global)) (event : ℕ) (chains : AreChains meets at kept) where
  begun-chain : (p : ℕ) → (begun at event p).chain ≡ (at p).chain
  begun-chain p = by (p == event) refl
    where
      by : (b : Bool) → (p == event) ≡ b → (begun at event p).chain ≡ (at p).chain
      by true e = ap (λ b. (cond b (record { chain = (at event).chain; below = (at event).below; is_cited = true; is_followed = (at event).is_followed }) (at p)).chain) e ∙ ap (λ q. (at q).chain) (sym (eqb-true p event e))
      by false e = ap (λ b. (cond b (record { chain = (at event).chain; below = (at event).below; is_cited = true; is_followed = (at event).is_followed }) (at p)).chain) e

  begun-below : (p : ℕ) → (begun at event p).below ≡ (at p).below
  begun-below p = by (p == event) refl
    where
      by : (b : Bool) → (p == event) ≡ b → (begun at event p).below ≡ (at p).below
      by true e = ap (λ b. (cond b (record { chain = (at event).chain; below = (at event).below; is_cited = true; is_followed = (at event).is_followed }) (at p)).below) e ∙ ap (λ q. (at q).below) (sym (eqb-true p event e))
      by false e = ap (λ b. (cond b (record { chain = (at event).chain; below = (at event).below; is_cited = true; is_followed = (at event).is_followed }) (at p)).below) e

  begun-followed : (p : ℕ) → (begun at event p).is_followed ≡ (at p).is_followed
  begun-followed p = by (p == event) refl
    where
      by : (b : Bool) → (p == event) ≡ b → (begun at event p).is_followed ≡ (at p).is_followed
      by true e = ap (λ b. (cond b (record { chain = (at event).chain; below = (at event).below; is_cited = true; is_followed = (at event).is_followed }) (at p)).is_followed) e ∙ ap (λ q. (at q).is_followed) (sym (eqb-true p event e))
      by false e = ap (λ b. (cond b (record { chain = (at event).chain; below = (at event).below; is_cited = true; is_followed = (at event).is_followed }) (at p)).is_followed) e

  begun-cited : (p : ℕ) → (begun at event p).is_cited ≡ false → (at p).is_cited ≡ false
  begun-cited p = by (p == event) refl
    where
      by : (b : Bool) → (p == event) ≡ b → (begun at event p).is_cited ≡ false → (at p).is_cited ≡ false
      by true e f = absurd (cc (sym f ∙ ap (λ b. (cond b (record { chain = (at event).chain; below = (at event).below; is_cited = true; is_followed = (at event).is_followed }) (at p)).is_cited) e))
      by false e f = sym (ap (λ b. (cond b (record { chain = (at event).chain; below = (at event).below; is_cited = true; is_followed = (at event).is_followed }) (at p)).is_cited) e) ∙ f

  pub chains-begun : AreChains meets (begun at event) kept
  chains-begun = record {
    linked = record {
      lower = λ p b e. chains.linked.lower p b (sym (begun-below p) ∙ e);
      below = λ p b e. begun-chain b ∙ chains.linked.below p b (sym (begun-below p) ∙ e) ∙ sym (begun-chain p);
      next = λ p b e x l s. chains.linked.next p b (sym (begun-below p) ∙ e) x l (sym (begun-chain x) ∙ s ∙ begun-chain p);
      first = λ p e x s. chains.linked.first p (sym (begun-below p) ∙ e) x (sym (begun-chain x) ∙ s ∙ begun-chain p);
    };
    ordered = λ p q e l. chains.ordered p q (sym (begun-chain p) ∙ e ∙ begun-chain q) l;
    exact = λ r k p. chains.exact r k p ∙ ap (λ c. has_row (rows_of (kept r)) c p) (sym (begun-chain p));
    ends = λ r k d l. begun-chain (get_or (rows_of (kept r)) k d).last ∙ chains.ends r k d l;
    unmet = λ q e. chains.unmet q (begun-cited q e);
    own = λ q e. begun-chain q ∙ chains.own q (begun-cited q e);
    only = λ q e x s. chains.only q (begun-cited q e) x (sym (begun-chain x) ∙ s);
    last = λ l e x s. chains.last l (sym (begun-followed l) ∙ e) x (sym (begun-chain x) ∙ s ∙ begun-chain l);
    down = λ p. subst (λ c. c ≤ p) (sym (begun-chain p)) (chains.down p);
  }

-- ---- a row comes after the last row of a chain

module _ (cites : ℕ → List ℕ) (meets : ℕ → ℕ → Bool) (met : AreMet cites meets) (at : ℕ → ChainPlace) (kept : ℕ → Option (Vec Reached Global)) (chains : AreChains meets at kept) (event l : ℕ) (fresh : (at event).is_cited ≡ false) (cited : is_in (cites event) l ≡ true) (is_last : IsLast (at l)) where
  abbrev new : ℕ → ChainPlace
  new = following at event l

  abbrev c : ℕ
  c = (at l).chain

  abbrev followed_place : ChainPlace
  followed_place = record { chain = (at l).chain; below = (at l).below; is_cited = (at l).is_cited; is_followed = true }

  abbrev event_place : ChainPlace
  event_place = record { chain = (at l).chain; below = Some l; is_cited = true; is_followed = false }

  meets-last : meets event l ≡ true
  meets-last = met.step event l ∙ any-in (λ q. (q == l) || meets q l) (cites event) l cited (or_left (l == l) (meets l l) (eq-eqb l l refl))

  before : l < event
  before = met.down event l meets-last

  differ : (event == l) ≡ false
  differ = no-row (event == l) (λ e. let f : event ≡ l = eqb-true event l e in let b : l < event = before in absurd (omega arith))

  -- the row is alone in its chain before, which is not that of the last row
  other-chain : (x : ℕ) → (at x).chain ≡ event → x ≡ event
  other-chain x e = chains.only event fresh x e

  c-differs : c ≡ event → ⊥
  c-differs e = let f : l ≡ event = other-chain l e in let b : l < event = before in absurd (omega arith)

  -- ---- the places after

  at-event : new event ≡ event_place
  at-event = ap (λ b. cond b followed_place (cond (event == event) event_place (at event))) differ ∙ ap (λ b. cond b event_place (at event)) (eq-eqb event event refl)

  at-last : new l ≡ followed_place
  at-last = ap (λ b. cond b followed_place (cond (l == event) event_place (at l))) (eq-eqb l l refl)

  at-other : (p : ℕ) → (p == l) ≡ false → (p == event) ≡ false → new p ≡ at p
  at-other p e f = ap (λ b. cond b followed_place (cond (p == event) event_place (at p))) e ∙ ap (λ b. cond b event_place (at p)) f

  -- every other row keeps its chain, and what is below it
  record IsSame (p : ℕ) : Type 0 where
    chain : (new p).chain ≡ (at p).chain
    below : (new p).below ≡ (at p).below
    citing : (new p).is_cited ≡ (at p).is_cited

  same : (p : ℕ) → (p == event) ≡ false → IsSame p
  same p f = by (p == l) refl
    where
      by : (b : Bool) → (p == l) ≡ b → IsSame p
      by true e =
          let here : p ≡ l = eqb-true p l e in
          subst IsSame (sym here) (record { chain = ap (λ s. s.chain) at-last; below = ap (λ s. s.below) at-last; citing = ap (λ s. s.is_cited) at-last })
      by false e = let f = at-other p e f in record { chain = ap (λ s. s.chain) f; below = ap (λ s. s.below) f; citing = ap (λ s. s.is_cited) f }

  event-chain : (new event).chain ≡ c
  event-chain = ap (λ s. s.chain) at-event

  -- the rows of its new chain come before it
  earlier : (x : ℕ) → (at x).chain ≡ c → x ≤ l
  earlier x e = chains.last l is_last.1 x e

  member-cases : (x : ℕ) → (new x).chain ≡ c → (x ≡ event) ⊎ (x ≤ l)
  member-cases x e = by (x == event) refl
    where
      by : (b : Bool) → (x == event) ≡ b → (x ≡ event) ⊎ (x ≤ l)
      by true f = inl (eqb-true x event f)
      by false f = inr (earlier x (sym (same x f).chain ∙ e))

  member-meets : (x : ℕ) → (at x).chain ≡ c → meets event x ≡ true
  member-meets x e = met.step event x ∙ any-in (λ q. (q == x) || meets q x) (cites event) l cited (by (cases_lt x l))
    where
      by : (x < l) ⊎ (l ≤ x) → ((l == x) || meets l x) ≡ true
      by (inl k) = or_right (l == x) (meets l x) (chains.ordered x l e k)
      by (inr k) = let h : x ≤ l = earlier x e in or_left (l == x) (meets l x) (eq-eqb l x (omega arith))

  -- ---- the fields

  new-ordered : (p q : ℕ) → (new p).chain ≡ (new q).chain → p < q → meets q p ≡ true
  new-ordered p q e k = by (q == event) (p == event) refl refl
    where
      by : (a b : Bool) → (q == event) ≡ a → (p == event) ≡ b → meets q p ≡ true
      by true true f g = let x : q ≡ event = eqb-true q event f in let y : p ≡ event = eqb-true p event g in absurd (omega arith)
      by true false f g =
          let x : q ≡ event = eqb-true q event f in
          ap (λ z. meets z p) x ∙ member-meets p (sym (same p g).chain ∙ e ∙ ap (λ z. (new z).chain) x ∙ event-chain)
      by false true f g =
          let y : p ≡ event = eqb-true p event g in
          let low : q ≤ l = earlier q (sym (same q f).chain ∙ sym e ∙ ap (λ z. (new z).chain) y ∙ event-chain) in
          let b : l < event = before in
          absurd (omega arith)
      by false false f g = chains.ordered p q (sym (same p g).chain ∙ e ∙ (same q f).chain) k

  -- no row that is kept for has the row in its auth chain, or any later one of the chain
  no-later : (r : ℕ) → has_row (rows_of (kept r)) c event ≡ false
  no-later r = no-row (has_row (rows_of (kept r)) c event) by
    where
      by : has_row (rows_of (kept r)) c event ≡ true → ⊥
      by e =
          let w = end-of at (rows_of (kept r)) (chains.ends r) c event e in
          let low : w.end ≤ l = earlier w.end w.chained in
          let high : event ≤ w.end = w.later in
          let b : l < event = before in
          absurd (omega arith)

  new-exact : (r : ℕ) → is_some (kept r) ≡ true → (p : ℕ) → meets r p ≡ has_row (rows_of (kept r)) (new p).chain p
  new-exact r k p = by (p == event) refl
    where
      by : (b : Bool) → (p == event) ≡ b → meets r p ≡ has_row (rows_of (kept r)) (new p).chain p
      by true e =
          let here : p ≡ event = eqb-true p event e in
          subst (λ q. meets r q ≡ has_row (rows_of (kept r)) (new q).chain q) (sym here)
          (chains.unmet event fresh r k ∙ sym (ap (λ d. has_row (rows_of (kept r)) d event) event-chain ∙ no-later r))
      by false e = chains.exact r k p ∙ ap (λ d. has_row (rows_of (kept r)) d p) (sym (same p e).chain)

  kept-there : (o : Option (Vec Reached Global)) (d p : ℕ) → has_row (rows_of o) d p ≡ true → is_some o ≡ true
  kept-there None d p e = absurd (cc e)
  kept-there (Some v) d p e = refl

  new-ends : (r : ℕ) → AreEnds new (rows_of (kept r))
  new-ends r = ends-same at new (rows_of (kept r)) (chains.ends r) stays
    where
      stays : (e : ℕ) → has_row (rows_of (kept r)) (at e).chain e ≡ true → (new e).chain ≡ (at e).chain
      stays e h = by (e == event) refl
        where
          by : (b : Bool) → (e == event) ≡ b → (new e).chain ≡ (at e).chain
          by true f =
              let here : e ≡ event = eqb-true e event f in
              let k : is_some (kept r) ≡ true = kept-there (kept r) (at e).chain e h in
              let m : meets r e ≡ true = chains.exact r k e ∙ h in
              absurd (not-both (meets r event) (ap (λ z. meets r z) (sym here) ∙ m) (chains.unmet event fresh r k))
          by false f = (same e f).chain

  -- a row that is not cited is another one
  uncited : (q : ℕ) → (new q).is_cited ≡ false → ((q == event) ≡ false) × ((at q).is_cited ≡ false)
  uncited q e = by (q == event) refl
    where
      by : (b : Bool) → (q == event) ≡ b → ((q == event) ≡ false) × ((at q).is_cited ≡ false)
      by true f = absurd (cc (sym e ∙ ap (λ z. (new z).is_cited) (eqb-true q event f) ∙ ap (λ s. s.is_cited) at-event))
      by false f = (f, sym (same q f).citing ∙ e)

  new-only : (q : ℕ) → (new q).is_cited ≡ false → (x : ℕ) → (new x).chain ≡ q → x ≡ q
  new-only q e x s = by (x == event) refl
    where
      by : (b : Bool) → (x == event) ≡ b → x ≡ q
      by true f =
          let here : x ≡ event = eqb-true x event f in
          let whose : c ≡ q = sym event-chain ∙ ap (λ z. (new z).chain) (sym here) ∙ s in
          let same_row : l ≡ q = chains.only q (uncited q e).1 l whose in
          absurd (not-both (at l).is_cited is_last.0 (ap (λ z. (at z).is_cited) same_row ∙ (uncited q e).1))
      by false f = chains.only q (uncited q e).1 x (sym (same x f).chain ∙ s)

  new-last : (p : ℕ) → (new p).is_followed ≡ false → (x : ℕ) → (new x).chain ≡ (new p).chain → x ≤ p
  new-last p e x s = by (p == event) (p == l) refl refl
    where
      not_last : (p == l) ≡ true → ⊥
      not_last g = cc (sym e ∙ ap (λ z. (new z).is_followed) (eqb-true p l g) ∙ ap (λ t. t.is_followed) at-last)

      at_event : p ≡ event → (x ≡ event) ⊎ (x ≤ l) → x ≤ p
      at_event f (inl g) = omega arith
      at_event f (inr g) = let b : l < event = before in omega arith

      elsewhere : (p == event) ≡ false → (p == l) ≡ false → (b : Bool) → (x == event) ≡ b → x ≤ p
      elsewhere f g true h =
          let whose : c ≡ (at p).chain = sym event-chain ∙ ap (λ z. (new z).chain) (sym (eqb-true x event h)) ∙ s ∙ (same p f).chain in
          let unfollowed : (at p).is_followed ≡ false = ap (λ t. t.is_followed) (sym (at-other p g f)) ∙ e in
          let a : l ≤ p = chains.last p unfollowed l whose in
          let b : p ≤ l = earlier p (sym whose) in
          let d = eqb-false p l g in
          absurd (omega arith)
      elsewhere f g false h =
          let unfollowed : (at p).is_followed ≡ false = ap (λ t. t.is_followed) (sym (at-other p g f)) ∙ e in
          chains.last p unfollowed x (sym (same x h).chain ∙ s ∙ (same p f).chain)

      by : (a b : Bool) → (p == event) ≡ a → (p == l) ≡ b → x ≤ p
      by true b f g = at_event (eqb-true p event f) (member-cases x (s ∙ ap (λ z. (new z).chain) (eqb-true p event f) ∙ event-chain))
      by false true f g = absurd (not_last g)
      by false false f g = elsewhere f g (x == event) refl

  new-down : (p : ℕ) → (new p).chain ≤ p
  new-down p = by (p == event) refl
    where
      by : (b : Bool) → (p == event) ≡ b → (new p).chain ≤ p
      by true f =
          let here : p ≡ event = eqb-true p event f in
          let d : c ≤ l = chains.down l in
          let b : l < event = before in
          let e : (new p).chain ≡ c = ap (λ z. (new z).chain) here ∙ event-chain in
          omega arith
      by false f = subst (λ d. d ≤ p) (sym (same p f).chain) (chains.down p)

  -- ---- what is below

  record IsBelow (p b : ℕ) : Type 0 where
    lower : b < p
    chained : (new b).chain ≡ (new p).chain
    next : (x : ℕ) → b < x → (new x).chain ≡ (new p).chain → p ≤ x

  some-equal : (x y : ℕ) → Some x ≡ Some y → x ≡ y
  some-equal x y e = cc

  below-event : (b : ℕ) → Some l ≡ Some b → IsBelow event b
  below-event b e = subst (IsBelow event) (some-equal l b e) (record { lower = before; chained = ap (λ s. s.chain) at-last ∙ sym event-chain; next = λ x k s. by x k (member-cases x (s ∙ event-chain)) })
    where
      by : (x : ℕ) → l < x → (x ≡ event) ⊎ (x ≤ l) → event ≤ x
      by x k (inl f) = omega arith
      by x k (inr f) = absurd (omega arith)

  below-other : (p b : ℕ) → (p == event) ≡ false → (at p).below ≡ Some b → IsBelow p b
  below-other p b f e = record {
    lower = chains.linked.lower p b e;
    chained = by (b == event) refl;
    next = after;
  }
    where
      by : (d : Bool) → (b == event) ≡ d → (new b).chain ≡ (new p).chain
      by true g =
          let here : b ≡ event = eqb-true b event g in
          let mine : (at p).chain ≡ event = sym (chains.linked.below p b e) ∙ ap (λ z. (at z).chain) here ∙ chains.own event fresh in
          let n = eqb-false p event f in
          let y : p ≡ event = other-chain p mine in
          absurd (n y)
      by false g = (same b g).chain ∙ chains.linked.below p b e ∙ sym (same p f).chain

      after : (x : ℕ) → b < x → (new x).chain ≡ (new p).chain → p ≤ x
      after x k s = step (x == event) refl
        where
          step : (d : Bool) → (x == event) ≡ d → p ≤ x
          step true g =
              let here : x ≡ event = eqb-true x event g in
              let low : p ≤ l = earlier p (sym (same p f).chain ∙ sym s ∙ ap (λ z. (new z).chain) here ∙ event-chain) in
              let b : l < event = before in
              omega arith
          step false g = chains.linked.next p b e x k (sym (same x g).chain ∙ s ∙ (same p f).chain)

  is_below : (p b : ℕ) → (new p).below ≡ Some b → IsBelow p b
  is_below p b e = by (p == event) refl
    where
      by : (d : Bool) → (p == event) ≡ d → IsBelow p b
      by true f =
          let here : p ≡ event = eqb-true p event f in
          subst (λ q. IsBelow q b) (sym here) (below-event b (sym (ap (λ s. s.below) at-event) ∙ ap (λ z. (new z).below) (sym here) ∙ e))
      by false f = below-other p b f (sym (same p f).below ∙ e)

  new-first : (p : ℕ) → (new p).below ≡ None → (x : ℕ) → (new x).chain ≡ (new p).chain → p ≤ x
  new-first p e x s = by (p == event) refl
    where
      by : (d : Bool) → (p == event) ≡ d → p ≤ x
      by true f = absurd (cc (sym (ap (λ t. t.below) at-event) ∙ ap (λ z. (new z).below) (sym (eqb-true p event f)) ∙ e))
      by false f = step (x == event) refl
        where
          step : (d : Bool) → (x == event) ≡ d → p ≤ x
          step true g =
              let here : x ≡ event = eqb-true x event g in
              let low : p ≤ l = earlier p (sym (same p f).chain ∙ sym s ∙ ap (λ z. (new z).chain) here ∙ event-chain) in
              let b : l < event = before in
              omega arith
          step false g = chains.linked.first p (sym (same p f).below ∙ e) x (sym (same x g).chain ∙ s ∙ (same p f).chain)

  pub chains-following : AreChains meets (following at event l) kept
  chains-following = record {
    linked = record {
      lower = λ p b e. (is_below p b e).lower;
      below = λ p b e. (is_below p b e).chained;
      next = λ p b e. (is_below p b e).next;
      first = new-first;
    };
    ordered = new-ordered;
    exact = new-exact;
    ends = new-ends;
    unmet = λ q e. chains.unmet q (uncited q e).1;
    own = λ q e. (same q (uncited q e).0).chain ∙ chains.own q (uncited q e).1;
    only = new-only;
    last = new-last;
    down = new-down;
  }

-- ---- what is found for a row that cites some events

swapped : (a b c : Bool) → ((a || b) || c) ≡ (a || (c || b))
swapped true b c = refl
swapped false true true = refl
swapped false true false = refl
swapped false false true = refl
swapped false false false = refl

-- the rows of an auth chain are added, and the row itself
pub added : (at : ℕ → ChainPlace) (kept : ℕ → Option (Vec Reached Global)) (event : ℕ) (place : ChainPlace) (others old mid new : List Reached) → place ≡ at event → place.is_cited ≡ true → is_some (kept event) ≡ true → others ≡ rows_of (kept event)
    → ((chain p : ℕ) → has_row mid chain p ≡ (has_row old chain p || has_row others chain p)) → (AreEnds at old → AreEnds at others → AreEnds at mid)
    → ((chain p : ℕ) → has_row new chain p ≡ (has_row mid chain p || ((place.chain == chain) && nat_le p event))) → (AreEnds at mid → (at event).chain ≡ place.chain → AreEnds at new)
    → AreAdded at kept event old new
added at kept event place others old mid new whose cited there are rows ends row_more end_more = record {
  kept_here = there;
  cited = ap (λ s. s.is_cited) (sym whose) ∙ cited;
  rows = λ chain p.
      row_more chain p ∙ ap (λ b. b || ((place.chain == chain) && nat_le p event)) (rows chain p)
      ∙ swapped (has_row old chain p) (has_row others chain p) ((place.chain == chain) && nat_le p event)
      ∙ (λ i. has_row old chain p || ((((whose i).chain == chain) && nat_le p event) || has_row (are i) chain p));
  ends = λ all before. end_more (ends before (subst (AreEnds at) (sym are) (all event))) (ap (λ s. s.chain) (sym whose));
}

module _ (events : List ℕ) (i event : ℕ) (l : i < length events) (here : event ≡ get_or events i event) where
  member-more : (q : ℕ) → is_in (take (i + 1) events) q ≡ true → (is_in (take i events) q ≡ true) ⊎ (event ≡ q)
  member-more q e = step (or_cases (is_in (take i events) q) (get_or events i event == q) (sym (list_any_more (λ x. x == q) events i event l) ∙ e))
    where
      step : (is_in (take i events) q ≡ true) ⊎ ((get_or events i event == q) ≡ true) → (is_in (take i events) q ≡ true) ⊎ (event ≡ q)
      step (inl k) = inl k
      step (inr k) = inr (here ∙ eqb-true (get_or events i event) q k)

pub kept-more : (kept : ℕ → Option (Vec Reached Global)) (events : List ℕ) (i event : ℕ) → i < length events → event ≡ get_or events i event → AreKept kept (take i events) → is_some (kept event) ≡ true → AreKept kept (take (i + 1) events)
kept-more kept events i event l here so_far more q e = by (member-more events i event l here q e)
  where
    by : (is_in (take i events) q ≡ true) ⊎ (event ≡ q) → is_some (kept q) ≡ true
    by (inl k) = so_far q k
    by (inr k) = ap (λ x. is_some (kept x)) (sym k) ∙ more

-- one event more
pub reached-more : (at : ℕ → ChainPlace) (kept : ℕ → Option (Vec Reached Global)) (events : List ℕ) (i event : ℕ) (old new : List Reached) → i < length events → event ≡ get_or events i event
    → AreReached at kept (take i events) old → AreAdded at kept event old new → AreReached at kept (take (i + 1) events) new
reached-more at kept events i event old new l here so_far more = record {
  kept_each = kept-more kept events i event l here so_far.kept_each more.kept_here;
  cited = λ q e. by_cited q (member-more events i event l here q e);
  rows = λ chain p.
      more.rows chain p ∙ ap (λ b. b || cited_has at kept event chain p) (so_far.rows chain p)
      ∙ ap (λ x. list_any (λ q. cited_has at kept q chain p) (take i events) || cited_has at kept x chain p) here ∙ sym (list_any_more (λ q. cited_has at kept q chain p) events i event l);
  ends = λ all. more.ends all (so_far.ends all);
}
  where
    by_cited : (q : ℕ) → (is_in (take i events) q ≡ true) ⊎ (event ≡ q) → (at q).is_cited ≡ true
    by_cited q (inl k) = so_far.cited q k
    by_cited q (inr k) = ap (λ x. (at x).is_cited) (sym k) ∙ more.cited
