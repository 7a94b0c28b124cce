-- A walk back over rows, in the order of falling bounds: each step keeps what it knows, and where it ends all is found.
use Rattle.std.proofs.Common.{◌≡◌, ℕ, ◌==◌, ◌≤◌, ◌<◌, nat_lt, Bool, true, false, ◌&&◌, ◌||◌, ◌⊎◌, inl, inr, not, List, refl, sym, ap, subst, ◌∙◌, arith, eq-eqb, eqb-true}
use Rattle.std.proofs.lemmas.Bool.{lt-ltb, ltb-true}
use Rattle.std.proofs.lemmas.Bool.Decides.{nat_tests}
use Rattle.mx_graph.specs.Edges.{IsAllFrom}
use Rattle.mx_graph.specs.Record.{is_in}
use Rattle.mx_graph.proofs.Closure.{or_cases, or_left, or_right}
use Rattle.mx_room.specs.HistoryWalks.{IsWalk, is_seen, is_under}

-- ---- the order of rows

module _ (bound : ℕ → ℕ) where
  pub under-chain : (x y z : ℕ) → is_under bound x y ≡ true → is_under bound y z ≡ true → is_under bound x z ≡ true
  under-chain x y z h k = grind (arith, nat_tests)

  pub not-under_itself : (x : ℕ) → is_under bound x x ≡ true → ⊥
  not-under_itself x h = grind (arith, nat_tests)

  pub under-other : (x y : ℕ) → is_under bound x y ≡ false → (x ≡ y → ⊥) → is_under bound y x ≡ true
  under-other x y h n = grind (arith, nat_tests)

  pub under-cited : (x y : ℕ) → bound y ≤ bound x → y < x → is_under bound y x ≡ true
  under-cited x y h l = grind (arith, nat_tests)

-- ---- tests

both : (a b : Bool) → (a && b) ≡ true → (a ≡ true) × (b ≡ true)
both true true e = (refl, refl)
both true false e = absurd (cc e)
both false b e = absurd (cc e)

passes : (a : Bool) → not a ≡ true → a ≡ false
passes true e = absurd (cc e)
passes false e = refl

differs : (x p : ℕ) → not (x == p) ≡ true → x ≡ p → ⊥
differs x p e s = absurd (cc (eq-eqb x p s, passes (x == p) e))

-- a row that was ahead is done, ahead or known
seen-looked : (o k d l e c : Bool) → ((d || o) || (k || l)) ≡ true → (((d || e) || ((o && not e) || (c && not k))) || (k || l)) ≡ true
seen-looked o k true l e c h = refl
seen-looked o k false l true c h = refl
seen-looked true k false l false c h = refl
seen-looked false true false l false true h = refl
seen-looked false true false l false false h = refl
seen-looked false false false l false true h = refl
seen-looked false false false l false false h = h

seen-cited : (o k d l e : Bool) → (((d || e) || ((o && not e) || (true && not k))) || (k || l)) ≡ true
seen-cited o k true l e = refl
seen-cited o k false l true = refl
seen-cited true k false l false = refl
seen-cited false true false l false = refl
seen-cited false false false l false = refl

known-left : (k l e c : Bool) → (k || l) ≡ true → (((k && not e) || c) || (l || e)) ≡ true
known-left true true true true h = refl
known-left true true true false h = refl
known-left true true false true h = refl
known-left true true false false h = refl
known-left true false true true h = refl
known-left true false true false h = refl
known-left true false false true h = refl
known-left true false false false h = refl
known-left false true e true h = refl
known-left false true e false h = refl
known-left false false e c h = absurd (cc h)

seen-left : (o k d l e c : Bool) → ((d || o) || (k || l)) ≡ true → ((d || (o && not c)) || (((k && not e) || c) || (l || e))) ≡ true
seen-left o k true l e c h = refl
seen-left true k false l e false h = refl
seen-left true true false l e true h = by e
  where
    by : (e : Bool) → (false || (((true && not e) || true) || (l || e))) ≡ true
    by true = refl
    by false = refl
seen-left true false false l e true h = refl
seen-left false k false l e c h = known-left k l e c h

apart-left : (o k e c : Bool) → (o && not c) ≡ true → (o ≡ true → k ≡ false) → ((k && not e) || c) ≡ false
apart-left o k e true h f = absurd (cc (both o false h).1)
apart-left o k e false h f = ap (λ a. (a && not e) || false) (f (both o true h).0)

apart-looked : (o k e c : Bool) → ((o && not e) || (c && not k)) ≡ true → (o ≡ true → k ≡ false) → k ≡ false
apart-looked o k e c h f = by (or_cases (o && not e) (c && not k) h)
  where
    by : ((o && not e) ≡ true) ⊎ ((c && not k) ≡ true) → k ≡ false
    by (inl g) = f (both o (not e) g).0
    by (inr g) = passes k (both c (not k) g).1

-- ---- the walk

module _ (cites : ℕ → List ℕ) (bound : ℕ → ℕ) (starts known_starts behind behind_known : ℕ → Bool) where
  abbrev Goes : (ℕ → Bool) → (ℕ → Bool) → (ℕ → Bool) → (ℕ → Bool) → Type 0
  Goes ahead known done done_known = IsWalk cites bound starts known_starts behind behind_known ahead known done done_known

  module _ (all : IsAllFrom cites starts behind) (all_known : IsAllFrom cites known_starts behind_known) where
    module _ (lower : (x y : ℕ) → is_in (cites x) y ≡ true → y < x) (falls : (x y : ℕ) → is_in (cites x) y ≡ true → bound y ≤ bound x)
        (ahead known done done_known : ℕ → Bool) (walk : Goes ahead known done done_known) (x : ℕ) (last : (q : ℕ) → (ahead q || known q) ≡ true → is_under bound x q ≡ false) where
      cited-under : (u y : ℕ) → is_in (cites u) y ≡ true → is_under bound y u ≡ true
      cited-under u y m = under-cited bound u y (falls u y m) (lower u y m)

      waits-under : (q : ℕ) → (ahead q || known q) ≡ true → (x ≡ q → ⊥) → is_under bound q x ≡ true
      waits-under q e n = under-other bound x q (last q e) n

      -- ---- an ahead row is looked at

      module _ (here : ahead x ≡ true) (ahead_new done_new : ℕ → Bool) (aheads : (p : ℕ) → ahead_new p ≡ ((ahead p && not (x == p)) || (is_in (cites x) p && not (known p))))
          (looks : (p : ℕ) → done_new p ≡ (done p || (x == p))) where
        known-under : (q : ℕ) → known q ≡ true → is_under bound q x ≡ true
        known-under q e = waits-under q (or_right (ahead q) (known q) e) (λ s. absurd (cc (subst (λ w. known w ≡ true) (sym s) e, walk.apart x here)))

        -- the row is behind no known one
        abbrev earlier : ℕ → Bool
        earlier p = done_known p || is_under bound p x

        earlier-of : (q : ℕ) → (known q ≡ true) ⊎ (done_known q ≡ true) → earlier q ≡ true
        earlier-of q (inl e) = or_right (done_known q) (is_under bound q x) (known-under q e)
        earlier-of q (inr e) = or_left (done_known q) (is_under bound q x) e

        earlier-closed : (u y : ℕ) → (done_known u ≡ true) ⊎ (is_under bound u x ≡ true) → is_in (cites u) y ≡ true → earlier y ≡ true
        earlier-closed u y (inl e) m = earlier-of y (or_cases (known y) (done_known y) (walk.next_known u y e m))
        earlier-closed u y (inr e) m = or_right (done_known y) (is_under bound y x) (under-chain bound y u x (cited-under u y m) e)

        not-earlier : (done_known x ≡ true) ⊎ (is_under bound x x ≡ true) → ⊥
        not-earlier (inl e) = not-under_itself bound x (walk.above x x (or_right (done x) (done_known x) e) (or_left (ahead x) (known x) here))
        not-earlier (inr e) = not-under_itself bound x e

        not-known : behind_known x ≡ false
        not-known = by (behind_known x) refl
          where
            by : (b : Bool) → behind_known x ≡ b → b ≡ false
            by true e =
                absurd
                (not-earlier
                (or_cases (done_known x) (is_under bound x x)
                (all_known.least earlier (λ p k. earlier-of p (or_cases (known p) (done_known p) (walk.first_known p k)))
                (λ u y k m. earlier-closed u y (or_cases (done_known u) (is_under bound u x) k) m) x e)))
            by false e = refl

        seen-goes : (p : ℕ) → is_seen ahead known done done_known p ≡ true → is_seen ahead_new known done_new done_known p ≡ true
        seen-goes p e =
            (λ i. (looks p i || aheads p i) || (known p || done_known p))
            ∙ seen-looked (ahead p) (known p) (done p) (done_known p) (x == p) (is_in (cites x) p) e

        seen-next : (p : ℕ) → is_in (cites x) p ≡ true → is_seen ahead_new known done_new done_known p ≡ true
        seen-next p m =
            (λ i. (looks p i || aheads p i) || (known p || done_known p))
            ∙ (λ i. ((done p || (x == p)) || ((ahead p && not (x == p)) || (m i && not (known p)))) || (known p || done_known p))
            ∙ seen-cited (ahead p) (known p) (done p) (done_known p) (x == p)

        -- what was ahead, or is cited
        ahead-parts : (p : ℕ) → ahead_new p ≡ true → ((ahead p ≡ true) × (not (x == p) ≡ true)) ⊎ (is_in (cites x) p ≡ true)
        ahead-parts p e = by (or_cases (ahead p && not (x == p)) (is_in (cites x) p && not (known p)) (sym (aheads p) ∙ e))
          where
            by : ((ahead p && not (x == p)) ≡ true) ⊎ ((is_in (cites x) p && not (known p)) ≡ true) → ((ahead p ≡ true) × (not (x == p) ≡ true)) ⊎ (is_in (cites x) p ≡ true)
            by (inl f) = inl (both (ahead p) (not (x == p)) f)
            by (inr f) = inr (both (is_in (cites x) p) (not (known p)) f).0

        done-parts : (p : ℕ) → done_new p ≡ true → (done p ≡ true) ⊎ (x ≡ p)
        done-parts p e = by (or_cases (done p) (x == p) (sym (looks p) ∙ e))
          where
            by : (done p ≡ true) ⊎ ((x == p) ≡ true) → (done p ≡ true) ⊎ (x ≡ p)
            by (inl f) = inl f
            by (inr f) = inr (eqb-true x p f)

        new-under : (p : ℕ) → (ahead_new p ≡ true) ⊎ (known p ≡ true) → is_under bound p x ≡ true
        new-under p (inr e) = known-under p e
        new-under p (inl e) = by (ahead-parts p e)
          where
            by : ((ahead p ≡ true) × (not (x == p) ≡ true)) ⊎ (is_in (cites x) p ≡ true) → is_under bound p x ≡ true
            by (inl f) = waits-under p (or_left (ahead p) (known p) f.0) (λ s. differs x p f.1 s)
            by (inr f) = cited-under x p f

        pub walk-looks : Goes ahead_new known done_new done_known
        walk-looks =
            record {
              first = λ p e. seen-goes p (walk.first p e);
              next = λ u y e m. by_next u y m (done-parts u e);
              first_known = walk.first_known;
              next_known = walk.next_known;
              from = λ p e. by_from p (or_cases (done_new p) (ahead_new p) e);
              from_known = walk.from_known;
              apart = λ p e. apart-looked (ahead p) (known p) (x == p) (is_in (cites x) p) (sym (aheads p) ∙ e) (walk.apart p);
              unknown = λ p e. by_unknown p (done-parts p e);
              above = λ u p e k. by_above u p (or_cases (done_new u) (done_known u) e) (new-under p (or_cases (ahead_new p) (known p) k));
            }
          where
            from_here : behind x ≡ true
            from_here = walk.from x (or_right (done x) (ahead x) here)

            by_next : (u y : ℕ) → is_in (cites u) y ≡ true → (done u ≡ true) ⊎ (x ≡ u) → is_seen ahead_new known done_new done_known y ≡ true
            by_next u y m (inl f) = seen-goes y (walk.next u y f m)
            by_next u y m (inr f) = seen-next y (subst (λ w. is_in (cites w) y ≡ true) (sym f) m)

            by_done : (p : ℕ) → (done p ≡ true) ⊎ (x ≡ p) → behind p ≡ true
            by_done p (inl f) = walk.from p (or_left (done p) (ahead p) f)
            by_done p (inr f) = subst (λ w. behind w ≡ true) f from_here

            by_open : (p : ℕ) → ((ahead p ≡ true) × (not (x == p) ≡ true)) ⊎ (is_in (cites x) p ≡ true) → behind p ≡ true
            by_open p (inl f) = walk.from p (or_right (done p) (ahead p) f.0)
            by_open p (inr f) = all.closed x p from_here f

            by_from : (p : ℕ) → (done_new p ≡ true) ⊎ (ahead_new p ≡ true) → behind p ≡ true
            by_from p (inl f) = by_done p (done-parts p f)
            by_from p (inr f) = by_open p (ahead-parts p f)

            by_unknown : (p : ℕ) → (done p ≡ true) ⊎ (x ≡ p) → behind_known p ≡ false
            by_unknown p (inl f) = walk.unknown p f
            by_unknown p (inr f) = subst (λ w. behind_known w ≡ false) f not-known

            before : (u p : ℕ) → (done u || done_known u) ≡ true → is_under bound p x ≡ true → is_under bound p u ≡ true
            before u p f k = under-chain bound p x u k (walk.above u x f (or_left (ahead x) (known x) here))

            by_looked : (u p : ℕ) → (done u ≡ true) ⊎ (x ≡ u) → is_under bound p x ≡ true → is_under bound p u ≡ true
            by_looked u p (inl f) k = before u p (or_left (done u) (done_known u) f) k
            by_looked u p (inr f) k = subst (λ w. is_under bound p w ≡ true) f k

            by_above : (u p : ℕ) → (done_new u ≡ true) ⊎ (done_known u ≡ true) → is_under bound p x ≡ true → is_under bound p u ≡ true
            by_above u p (inl f) k = by_looked u p (done-parts u f) k
            by_above u p (inr f) k = before u p (or_right (done u) (done_known u) f) k

      -- ---- a known row is left out

      module _ (here : known x ≡ true) (ahead_new known_new done_new : ℕ → Bool) (aheads : (p : ℕ) → ahead_new p ≡ (ahead p && not (is_in (cites x) p)))
          (knows : (p : ℕ) → known_new p ≡ ((known p && not (x == p)) || is_in (cites x) p)) (leaves : (p : ℕ) → done_new p ≡ (done_known p || (x == p))) where
        ahead-under : (q : ℕ) → ahead q ≡ true → is_under bound q x ≡ true
        ahead-under q e = waits-under q (or_left (ahead q) (known q) e) (λ s. absurd (cc (subst (λ w. known w ≡ true) s here, walk.apart q e)))

        seen-stays : (p : ℕ) → is_seen ahead known done done_known p ≡ true → is_seen ahead_new known_new done done_new p ≡ true
        seen-stays p e =
            (λ i. (done p || aheads p i) || (knows p i || leaves p i))
            ∙ seen-left (ahead p) (known p) (done p) (done_known p) (x == p) (is_in (cites x) p) e

        known-stays : (p : ℕ) → (known p || done_known p) ≡ true → (known_new p || done_new p) ≡ true
        known-stays p e = (λ i. knows p i || leaves p i) ∙ known-left (known p) (done_known p) (x == p) (is_in (cites x) p) e

        cited-known : (p : ℕ) → is_in (cites x) p ≡ true → known_new p ≡ true
        cited-known p m = knows p ∙ or_right (known p && not (x == p)) (is_in (cites x) p) m

        known-parts : (p : ℕ) → known_new p ≡ true → ((known p ≡ true) × (not (x == p) ≡ true)) ⊎ (is_in (cites x) p ≡ true)
        known-parts p e = by (or_cases (known p && not (x == p)) (is_in (cites x) p) (sym (knows p) ∙ e))
          where
            by : ((known p && not (x == p)) ≡ true) ⊎ (is_in (cites x) p ≡ true) → ((known p ≡ true) × (not (x == p) ≡ true)) ⊎ (is_in (cites x) p ≡ true)
            by (inl f) = inl (both (known p) (not (x == p)) f)
            by (inr f) = inr f

        left-parts : (p : ℕ) → done_new p ≡ true → (done_known p ≡ true) ⊎ (x ≡ p)
        left-parts p e = by (or_cases (done_known p) (x == p) (sym (leaves p) ∙ e))
          where
            by : (done_known p ≡ true) ⊎ ((x == p) ≡ true) → (done_known p ≡ true) ⊎ (x ≡ p)
            by (inl f) = inl f
            by (inr f) = inr (eqb-true x p f)

        was-ahead : (p : ℕ) → ahead_new p ≡ true → ahead p ≡ true
        was-ahead p e = (both (ahead p) (not (is_in (cites x) p)) (sym (aheads p) ∙ e)).0

        now-under : (p : ℕ) → (ahead_new p ≡ true) ⊎ (known_new p ≡ true) → is_under bound p x ≡ true
        now-under p (inl e) = ahead-under p (was-ahead p e)
        now-under p (inr e) = by (known-parts p e)
          where
            by : ((known p ≡ true) × (not (x == p) ≡ true)) ⊎ (is_in (cites x) p ≡ true) → is_under bound p x ≡ true
            by (inl f) = waits-under p (or_right (ahead p) (known p) f.0) (λ s. differs x p f.1 s)
            by (inr f) = cited-under x p f

        pub walk-leaves : Goes ahead_new known_new done done_new
        walk-leaves =
            record {
              first = λ p e. seen-stays p (walk.first p e);
              next = λ u y e m. seen-stays y (walk.next u y e m);
              first_known = λ p e. known-stays p (walk.first_known p e);
              next_known = λ u y e m. by_next u y m (left-parts u e);
              from = λ p e. by_from p (or_cases (done p) (ahead_new p) e);
              from_known = λ p e. by_from_known p (or_cases (known_new p) (done_new p) e);
              apart = λ p e. knows p ∙ apart-left (ahead p) (known p) (x == p) (is_in (cites x) p) (sym (aheads p) ∙ e) (walk.apart p);
              unknown = walk.unknown;
              above = λ u p e k. by_above u p (or_cases (done u) (done_new u) e) (now-under p (or_cases (ahead_new p) (known_new p) k));
            }
          where
            by_next : (u y : ℕ) → is_in (cites u) y ≡ true → (done_known u ≡ true) ⊎ (x ≡ u) → (known_new y || done_new y) ≡ true
            by_next u y m (inl f) = known-stays y (walk.next_known u y f m)
            by_next u y m (inr f) = or_left (known_new y) (done_new y) (cited-known y (subst (λ w. is_in (cites w) y ≡ true) (sym f) m))

            by_from : (p : ℕ) → (done p ≡ true) ⊎ (ahead_new p ≡ true) → behind p ≡ true
            by_from p (inl f) = walk.from p (or_left (done p) (ahead p) f)
            by_from p (inr f) = walk.from p (or_right (done p) (ahead p) (was-ahead p f))

            from_here : behind_known x ≡ true
            from_here = walk.from_known x (or_left (known x) (done_known x) here)

            by_waits : (p : ℕ) → ((known p ≡ true) × (not (x == p) ≡ true)) ⊎ (is_in (cites x) p ≡ true) → behind_known p ≡ true
            by_waits p (inl f) = walk.from_known p (or_left (known p) (done_known p) f.0)
            by_waits p (inr f) = all_known.closed x p from_here f

            by_left : (p : ℕ) → (done_known p ≡ true) ⊎ (x ≡ p) → behind_known p ≡ true
            by_left p (inl f) = walk.from_known p (or_right (known p) (done_known p) f)
            by_left p (inr f) = subst (λ w. behind_known w ≡ true) f from_here

            by_from_known : (p : ℕ) → (known_new p ≡ true) ⊎ (done_new p ≡ true) → behind_known p ≡ true
            by_from_known p (inl f) = by_waits p (known-parts p f)
            by_from_known p (inr f) = by_left p (left-parts p f)

            before : (u p : ℕ) → (done u || done_known u) ≡ true → is_under bound p x ≡ true → is_under bound p u ≡ true
            before u p f k = under-chain bound p x u k (walk.above u x f (or_right (ahead x) (known x) here))

            by_known : (u p : ℕ) → (done_known u ≡ true) ⊎ (x ≡ u) → is_under bound p x ≡ true → is_under bound p u ≡ true
            by_known u p (inl f) k = before u p (or_right (done u) (done_known u) f) k
            by_known u p (inr f) k = subst (λ w. is_under bound p w ≡ true) f k

            by_above : (u p : ℕ) → (done u ≡ true) ⊎ (done_new u ≡ true) → is_under bound p x ≡ true → is_under bound p u ≡ true
            by_above u p (inl f) k = before u p (or_left (done u) (done_known u) f) k
            by_above u p (inr f) k = by_known u p (left-parts u f) k

    -- ---- where the walk ends, each row behind the starts and behind no known one that is deeper than the ahead ones was looked at

    module _ (falls : (x y : ℕ) → is_in (cites x) y ≡ true → bound y ≤ bound x) (ahead known done done_known : ℕ → Bool) (walk : Goes ahead known done done_known)
        (depth : ℕ) (shallow : (p : ℕ) → ahead p ≡ true → bound p < depth) where
      abbrev passed : ℕ → Bool
      passed p = done p || (behind_known p || nat_lt (bound p) depth)

      is-shallow : (p : ℕ) → bound p < depth → passed p ≡ true
      is-shallow p l = or_right (done p) _ (or_right (behind_known p) (nat_lt (bound p) depth) (lt-ltb (bound p) depth l))

      is-known : (p : ℕ) → behind_known p ≡ true → passed p ≡ true
      is-known p e = or_right (done p) _ (or_left (behind_known p) (nat_lt (bound p) depth) e)

      is-seen : (p : ℕ) → is_seen ahead known done done_known p ≡ true → passed p ≡ true
      is-seen p e = by (or_cases (done p || ahead p) (known p || done_known p) e)
        where
          by_first : (done p ≡ true) ⊎ (ahead p ≡ true) → passed p ≡ true
          by_first (inl f) = or_left (done p) _ f
          by_first (inr f) = is-shallow p (shallow p f)

          by : ((done p || ahead p) ≡ true) ⊎ ((known p || done_known p) ≡ true) → passed p ≡ true
          by (inl f) = by_first (or_cases (done p) (ahead p) f)
          by (inr f) = is-known p (walk.from_known p f)

      passed-next : (x y : ℕ) → passed x ≡ true → is_in (cites x) y ≡ true → passed y ≡ true
      passed-next x y e m = by (or_cases (done x) _ e)
        where
          by_rest : (behind_known x ≡ true) ⊎ (nat_lt (bound x) depth ≡ true) → passed y ≡ true
          by_rest (inl f) = is-known y (all_known.closed x y f m)
          by_rest (inr f) = let l : bound x < depth = ltb-true (bound x) depth f in let k : bound y ≤ bound x = falls x y m in is-shallow y (omega arith)

          by : (done x ≡ true) ⊎ ((behind_known x || nat_lt (bound x) depth) ≡ true) → passed y ≡ true
          by (inl f) = is-seen y (walk.next x y f m)
          by (inr f) = by_rest (or_cases (behind_known x) (nat_lt (bound x) depth) f)

      pub walk-ends : (p : ℕ) → depth ≤ bound p → behind p ≡ true → behind_known p ≡ false → done p ≡ true
      walk-ends p deep e n = by (or_cases (done p) _ (all.least passed (λ q k. is-seen q (walk.first q k)) passed-next p e))
        where
          by_rest : (behind_known p ≡ true) ⊎ (nat_lt (bound p) depth ≡ true) → done p ≡ true
          by_rest (inl f) = absurd (cc (f, n))
          by_rest (inr f) = let l : bound p < depth = ltb-true (bound p) depth f in absurd (omega arith)

          by : (done p ≡ true) ⊎ ((behind_known p || nat_lt (bound p) depth) ≡ true) → done p ≡ true
          by (inl f) = f
          by (inr f) = by_rest (or_cases (behind_known p) (nat_lt (bound p) depth) f)
