-- The greatest depth behind each event, by what the event follows.
use Rattle.std.proofs.Common.{◌≡◌, ℕ, zero, suc, ◌+◌, ◌==◌, ◌≤◌, ◌<◌, Bool, true, ◌||◌, ◌⊎◌, inl, inr, List, [], ◌∷◌, ◌++◌, length, refl, sym, ap, subst, ◌∙◌, arith, eq-eqb, eqb-true, length-append, Option, Some, None}
use Rattle.std.proofs.lemmas.Bool.{cases_lt}
use Rattle.std.proofs.lemmas.List.{append-nil}
use Rattle.std.specs.Prelude.{fold, max, slice_index, slice_index_or, option_to_list}
use Rattle.mx_pdu.specs.Event.{depth_of, prev_ids}
use Rattle.mx_graph.specs.AuthChains.{AreMet}
use Rattle.mx_graph.specs.Depths.{AreBounds, depth_bound}
use Rattle.mx_graph.specs.Graph.{CitesDown, IsSound, ancestors}
use Rattle.mx_graph.specs.Inside.{AreBoundsOf}
use Rattle.mx_graph.specs.Record.{Row, event, is_in, prev_events}
use Rattle.mx_graph.proofs.ChainLemmas.{any-in}
use Rattle.mx_graph.proofs.Closure.{or_cases, or_left, or_right}
use Rattle.mx_graph.proofs.KeptChainLemmas.{lists-begin, lists-last, met-reached}
use Rattle.mx_graph.proofs.LongerRecordLemmas.{sound-before}
use Rattle.mx_graph.proofs.MarkLemmas.{any-to}
use Rattle.mx_graph.proofs.RemovalLemmas.{cites-before, lt-neq, places-before}
use Rattle.mx_graph.proofs.RowLemmas.{row-new, row-other}

-- ---- the greatest of a number and of what some others have

abbrev pub greatest : (ℕ → ℕ) → ℕ → List ℕ → ℕ
greatest f d ps = fold (λ m p. max m (f p)) d ps

module _ (f : ℕ → ℕ) where
  start-below : (d : ℕ) (ps : List ℕ) → d ≤ greatest f d ps
  start-below d [] = omega arith
  start-below d (p ∷ ps) = let l : max d (f p) ≤ greatest f (max d (f p)) ps = start-below (max d (f p)) ps in omega arith

  member-below : (d : ℕ) (ps : List ℕ) (x : ℕ) → is_in ps x ≡ true → f x ≤ greatest f d ps
  member-below d [] x e = absurd (cc e)
  member-below d (p ∷ ps) x e = by (member-below (max d (f p)) ps x) (or_cases (p == x) (is_in ps x) e)
    where
      by : (is_in ps x ≡ true → f x ≤ greatest f (max d (f p)) ps) → ((p == x) ≡ true) ⊎ (is_in ps x ≡ true) → f x ≤ greatest f (max d (f p)) ps
      by later (inl k) =
          let same : f p ≡ f x = ap f (eqb-true p x k) in
          let l : max d (f p) ≤ greatest f (max d (f p)) ps = start-below (max d (f p)) ps in
          omega arith
      by later (inr k) = later k

  greatest-least : (d : ℕ) (ps : List ℕ) (b : ℕ) → d ≤ b → ((x : ℕ) → is_in ps x ≡ true → f x ≤ b) → greatest f d ps ≤ b
  greatest-least d [] b l h = l
  greatest-least d (p ∷ ps) b l h =
      greatest-least (max d (f p)) ps b
      (let m : f p ≤ b = h p (or_left (p == p) (is_in ps p) (eq-eqb p p refl)) in omega arith)
      (λ x e. h x (or_right (p == x) (is_in ps x) e))

same-greatest : (f g : ℕ → ℕ) (d : ℕ) (ps : List ℕ) → ((x : ℕ) → is_in ps x ≡ true → f x ≡ g x) → greatest f d ps ≡ greatest g d ps
same-greatest f g d [] h = refl
same-greatest f g d (p ∷ ps) h =
    same-greatest f g (max d (f p)) ps (λ x e. h x (or_right (p == x) (is_in ps x) e))
    ∙ ap (λ m. greatest g (max d m) ps) (h p (or_left (p == p) (is_in ps p) (eq-eqb p p refl)))

-- ---- what a bound bounds

module _ (rows : List Row) (down : CitesDown rows (λ p. prev_events rows (event rows p))) where
  abbrev depth : ℕ → ℕ
  depth p = depth_of (event rows p)

  abbrev follows : ℕ → List ℕ
  follows p = prev_events rows (event rows p)

  abbrev leads : ℕ → ℕ → Bool
  leads x y = is_in (ancestors rows (x ∷ [])) y

  met : AreMet follows leads
  unfolding ancestors
  met = met-reached rows follows down

  own : (x : ℕ) → depth x ≤ depth_bound rows x
  unfolding depth_bound
  own x = member-below depth 0 (x ∷ ancestors rows (x ∷ [])) x (or_left (x == x) (leads x x) (eq-eqb x x refl))

  behind : (x y : ℕ) → leads x y ≡ true → depth y ≤ depth_bound rows x
  unfolding depth_bound
  behind x y e = member-below depth 0 (x ∷ ancestors rows (x ∷ [])) y (or_right (x == y) (leads x y) e)

  bound-least : (x b : ℕ) → depth x ≤ b → ((y : ℕ) → leads x y ≡ true → depth y ≤ b) → depth_bound rows x ≤ b
  unfolding depth_bound
  bound-least x b l h = greatest-least depth 0 (x ∷ ancestors rows (x ∷ [])) b (omega arith) (λ y e. by y (or_cases (x == y) (leads x y) e))
    where
      by : (y : ℕ) → ((x == y) ≡ true) ⊎ (leads x y ≡ true) → depth y ≤ b
      by y (inl k) = subst (λ z. depth z ≤ b) (eqb-true x y k) l
      by y (inr k) = h y k

  -- what it follows, and what that leads to, is behind it
  further : (x y z : ℕ) → is_in (follows x) y ≡ true → ((y == z) || leads y z) ≡ true → leads x z ≡ true
  further x y z e k = met.step x z ∙ any-in (λ q. (q == z) || leads q z) (follows x) y e k

  falls : (x y : ℕ) → is_in (follows x) y ≡ true → depth_bound rows y ≤ depth_bound rows x
  falls x y e =
      bound-least y (depth_bound rows x) (behind x y (further x y y e (or_left (y == y) (leads y y) (eq-eqb y y refl))))
      (λ z k. behind x z (further x y z e (or_right (y == z) (leads y z) k)))

  -- it is the greatest of its own depth and of the bounds of what it follows
  bound-step : (x : ℕ) → depth_bound rows x ≡ greatest (depth_bound rows) (depth x) (follows x)
  bound-step x = (let a = above in let b = below in omega (arith, a, b))
    where
      of_followed : (y q : ℕ) → is_in (follows x) q ≡ true → ((q == y) ≡ true) ⊎ (leads q y ≡ true) → depth y ≤ depth_bound rows q
      of_followed y q m (inl k) = subst (λ z. depth z ≤ depth_bound rows q) (eqb-true q y k) (own q)
      of_followed y q m (inr k) = behind q y k

      below : depth_bound rows x ≤ greatest (depth_bound rows) (depth x) (follows x)
      below =
          bound-least x (greatest (depth_bound rows) (depth x) (follows x)) (start-below (depth_bound rows) (depth x) (follows x))
          (λ y e.
          let w = any-to (λ q. (q == y) || leads q y) (follows x) (sym (met.step x y) ∙ e) in
          let l : depth y ≤ depth_bound rows w.0 = of_followed y w.0 w.1 (or_cases (w.0 == y) (leads w.0 y) w.2) in
          let m : depth_bound rows w.0 ≤ greatest (depth_bound rows) (depth x) (follows x) = member-below (depth_bound rows) (depth x) (follows x) w.0 w.1 in
          omega arith)

      above : greatest (depth_bound rows) (depth x) (follows x) ≤ depth_bound rows x
      above = greatest-least (depth_bound rows) (depth x) (follows x) (depth_bound rows x) (own x) (falls x)

pub bounds-hold : (rows : List Row) → IsSound rows → AreBounds rows
bounds-hold rows sound = record { own = λ x l. own rows sound.prev x; behind = behind rows sound.prev; falls = falls rows sound.prev }

-- ---- records that begin alike

module _ (rows other : List Row) (down : CitesDown rows (λ p. prev_events rows (event rows p))) (other_down : CitesDown other (λ p. prev_events other (event other p)))
    (n : ℕ) (events : (x : ℕ) → x < n → event other x ≡ event rows x) (cited : (x : ℕ) → x < n → prev_events other (event other x) ≡ prev_events rows (event rows x)) where
  same-below : (k x : ℕ) → x < k → x < n → depth_bound other x ≡ depth_bound rows x
  same-below zero x l m = absurd (omega arith)
  same-below (suc k) x l m =
      bound-step other other_down x
      ∙ same-greatest (depth_bound other) (depth_bound rows) (depth_of (event other x)) (prev_events other (event other x))
      (λ y e. let lower : y < x = (other_down x y e).1 in same-below k y (omega arith) (omega arith))
      ∙ (λ i. greatest (depth_bound rows) (depth_of (events x m i)) (cited x m i))
      ∙ sym (bound-step rows down x)

  same-bounds : (x : ℕ) → x < n → depth_bound other x ≡ depth_bound rows x
  same-bounds x l = same-below (suc x) x (omega arith) l

-- one row more changes none of those before it
pub bound-before : (rows : List Row) (r : Row) → IsSound (rows ++ r ∷ []) → (x : ℕ) → x < length rows → depth_bound (rows ++ r ∷ []) x ≡ depth_bound rows x
bound-before rows r sound =
    same-bounds rows (rows ++ r ∷ []) (sound-before rows r sound).prev sound.prev (length rows)
    (λ x l. ap (λ (s : Row). s.event) (row-other rows r x (lt-neq x (length rows) l)))
    (cites-before rows r prev_ids refl sound.prev)

pub bound-earlier : (earlier : List Row) (next : Option Row) → IsSound (earlier ++ option_to_list next) → (x : ℕ) → x < length earlier → depth_bound (earlier ++ option_to_list next) x ≡ depth_bound earlier x
bound-earlier earlier None sound x l = ap (λ rows. depth_bound rows x) (append-nil earlier)
bound-earlier earlier (Some r) sound x l = bound-before earlier r sound x l

-- ---- what is kept of them

-- the number at a place, as an index reads it
pub number-at : (numbers : List ℕ) (p n : ℕ) → p < length numbers → n ≡ slice_index_or numbers p n → n ≡ slice_index numbers p
number-at [] p n l e = absurd (omega arith)
number-at (m ∷ numbers) zero n l e = e
number-at (m ∷ numbers) (suc p) n l e = number-at numbers p n (omega arith) e

pub bounds-push : (rows : List Row) (r : Row) (bounds : List ℕ) (d : ℕ) (prev : List ℕ) → IsSound (rows ++ r ∷ []) → AreBoundsOf rows bounds → prev ≡ prev_events rows r.event → d ≡ greatest (slice_index bounds) (depth_of r.event) prev
    → AreBoundsOf (rows ++ r ∷ []) (bounds ++ d ∷ [])
bounds-push rows r bounds d prev sound kept cited found = record {
  len = length-append bounds (d ∷ []) ∙ ap (λ n. n + 1) kept.len ∙ sym (length-append rows (r ∷ []));
  right = λ p l. (let m : length (rows ++ r ∷ []) ≡ length rows + 1 = length-append rows (r ∷ []) in by p (omega arith) (cases_lt p (length rows)));
}
  where
    event_new : event (rows ++ r ∷ []) (length rows) ≡ r.event
    event_new = ap (λ (s : Row). s.event) (row-new rows r)

    follows_new : prev_events (rows ++ r ∷ []) (event (rows ++ r ∷ []) (length rows)) ≡ prev
    follows_new =
        places-before rows r (prev_ids (event (rows ++ r ∷ []) (length rows))) (λ y e. (sound.prev (length rows) y e).1)
        ∙ ap (λ (s : Row). prev_events rows s.event) (row-new rows r) ∙ sym cited

    known : (y : ℕ) → is_in prev y ≡ true → y < length rows
    known y e = (sound.prev (length rows) y (ap (λ xs. is_in xs y) follows_new ∙ e)).1

    kept_at : (p : ℕ) → p < length rows → slice_index (bounds ++ d ∷ []) p ≡ depth_bound (rows ++ r ∷ []) p
    kept_at p l =
        lists-begin bounds (d ∷ []) 0 p (let m : length bounds ≡ length rows = kept.len in omega arith) ∙ kept.right p l ∙ sym (bound-before rows r sound p l)

    last : d ≡ depth_bound (rows ++ r ∷ []) (length rows)
    last =
        found
        ∙ same-greatest (slice_index bounds) (depth_bound (rows ++ r ∷ [])) (depth_of r.event) prev (λ y e. kept.right y (known y e) ∙ sym (bound-before rows r sound y (known y e)))
        ∙ (λ i. greatest (depth_bound (rows ++ r ∷ [])) (depth_of (sym event_new i)) (sym follows_new i))
        ∙ sym (bound-step (rows ++ r ∷ []) sound.prev (length rows))

    by : (p : ℕ) → p ≤ length rows → (p < length rows) ⊎ (length rows ≤ p) → slice_index (bounds ++ d ∷ []) p ≡ depth_bound (rows ++ r ∷ []) p
    by p m (inl l) = kept_at p l
    by p m (inr l) =
        let same : p ≡ length rows = omega arith in
        subst (λ q. slice_index (bounds ++ d ∷ []) q ≡ depth_bound (rows ++ r ∷ []) q) (sym same)
        (ap (slice_index (bounds ++ d ∷ [])) (sym kept.len) ∙ lists-last bounds d 0 ∙ last)

pub bounds-pop : (rows : List Row) (r : Row) (bounds more : List ℕ) → IsSound (rows ++ r ∷ []) → AreBoundsOf (rows ++ r ∷ []) (bounds ++ more) → length bounds ≡ length rows → AreBoundsOf rows bounds
bounds-pop rows r bounds more sound kept len = record {
  len = len;
  right = λ p l.
      sym (lists-begin bounds more 0 p (omega arith))
      ∙ kept.right p (let m : length (rows ++ r ∷ []) ≡ length rows + 1 = length-append rows (r ∷ []) in omega arith)
      ∙ bound-before rows r sound p l;
}
