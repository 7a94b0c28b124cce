-- The walk over the rows that a power order passes.
use Rattle.std.proofs.Common.{◌≡◌, ℕ, ◌<◌, ◌≤◌, ◌++◌, Bool, true, false, cond, not, ◌||◌, ◌&&◌, ◌⊎◌, inl, inr, List, [], ◌∷◌, filter, length, nat_le, refl, sym, ap, subst, ◌∙◌, arith}
use Rattle.std.specs.Ordering.{is_eq, is_lt, nat_cmp}
use Rattle.std.specs.List.{All}
use Rattle.std.proofs.lemmas.Bool.{and_parts, le-leb, leb-true}
use Rattle.mx_graph.specs.Edges.{IsAllFrom, LeadDown, Rises}
use Rattle.mx_graph.specs.Record.{Row, is_in, event, auth_events}
use Rattle.mx_graph.specs.Graph.{IsSound}
use Rattle.mx_graph.proofs.Closure.{is_in-from, is_in-to, or_cases, or_left, or_right}
use Rattle.mx_graph.proofs.Members.{in_append-left, in_append-right, in_append-cases, in_filter, in_filter-parts}
use Rattle.mx_graph.proofs.WalkLemmas.{IsWalk, new_below, walk-begins, walk-goes}
use Rattle.mx_orders.specs.Passed.{ArePassed, cites_from}
use Rattle.mx_orders.proofs.Members.{In, Distinct, filter-distinct}
use Rattle.mx_orders.proofs.CountLemmas.{all-at}

pub from-is : (least p : ℕ) (xs : List ℕ) → is_in (filter (nat_le least) xs) p ≡ (is_in xs p && nat_le least p)
from-is least p xs = by (is_in (filter (nat_le least) xs) p) (is_in xs p && nat_le least p) refl refl
  where
    by : (a b : Bool) → is_in (filter (nat_le least) xs) p ≡ a → (is_in xs p && nat_le least p) ≡ b → is_in (filter (nat_le least) xs) p ≡ (is_in xs p && nat_le least p)
    by true b e k = let m : In p xs × (nat_le least p ≡ true) = in_filter-parts (nat_le least) p xs (is_in-to p (filter (nat_le least) xs) e) in e ∙ (λ i. sym (is_in-from p xs m.0) i && sym m.1 i)
    by false true e k = let m = and_parts (is_in xs p) (nat_le least p) k in absurd (cc (sym e ∙ is_in-from p (filter (nat_le least) xs) (in_filter (nat_le least) p xs (is_in-to p xs m.0) m.1)))
    by false false e k = e ∙ sym k

-- what was taken and what waits
pub record IsPassingDown (rows : List Row) (least : ℕ) (first : ℕ → Bool) (taken : List ℕ) (waiting : ℕ → Bool) : Type 0 where
  pub walk : IsWalk (cites_from rows least) first taken waiting
  pub known : (p : ℕ) → (is_in taken p || waiting p) ≡ true → p < length rows

pub waiting-known : (rows : List Row) (least : ℕ) (first : ℕ → Bool) (taken : List ℕ) (waiting : ℕ → Bool) → IsPassingDown rows least first taken waiting → (p : ℕ) → waiting p ≡ true → p < length rows
waiting-known rows least first taken waiting w p e = w.known p (or_right (is_in taken p) (waiting p) e)

pub taken-known : (rows : List Row) (least : ℕ) (first : ℕ → Bool) (taken : List ℕ) (waiting : ℕ → Bool) → IsPassingDown rows least first taken waiting → (p : ℕ) → is_in taken p ≡ true → p < length rows
taken-known rows least first taken waiting w p e = w.known p (or_left (is_in taken p) (waiting p) e)

pub passing-begins : (rows : List Row) (least : ℕ) (first : ℕ → Bool) → ((p : ℕ) → first p ≡ true → p < length rows) → (taken : List ℕ) → taken ≡ [] → IsPassingDown rows least first taken first
passing-begins rows least first known taken e = subst (λ ts. IsPassingDown rows least first ts first) (sym e) (record { walk = walk-begins (cites_from rows least) first; known = known })

module _ (rows : List Row) (sound : IsSound rows) (least : ℕ) where
  pub from-falls : LeadDown (cites_from rows least)
  from-falls x y e = (sound.auth x y (is_in-from y _ (in_filter-parts (nat_le least) y _ (is_in-to y _ e)).0)).1

  from-known : (x y : ℕ) → is_in (cites_from rows least x) y ≡ true → y < length rows
  from-known x y e = (sound.auth x y (is_in-from y _ (in_filter-parts (nat_le least) y _ (is_in-to y _ e)).0)).0

  module _ (first : ℕ → Bool) (taken cited : List ℕ) (old mid new : ℕ → Bool) (k : ℕ) (w : IsPassingDown rows least first taken old) (here : old k ≡ true) (greatest : (q : ℕ) → old q ≡ true → is_lt (nat_cmp k q) ≡ false)
      (popped : (q : ℕ) → mid q ≡ cond (is_eq (nat_cmp k q)) false (old q)) (c : cited ≡ auth_events rows (event rows k)) (waits : (q : ℕ) → new q ≡ (mid q || (is_in cited q && nat_le least q))) where
    wait : (q : ℕ) → new q ≡ (mid q || is_in (cites_from rows least k) q)
    wait q = waits q ∙ ap (λ ys. mid q || (is_in ys q && nat_le least q)) c ∙ ap (λ b. mid q || b) (sym (from-is least q (auth_events rows (event rows k))))

    pub passing-below : (q : ℕ) → new q ≡ true → q < k
    passing-below q e = new_below (cites_from rows least) first taken old mid new k w.walk here greatest popped wait from-falls q e

    pub passing-goes : IsPassingDown rows least first (k ∷ taken) new
    passing-goes = record {
      walk = walk-goes (cites_from rows least) first taken old mid new k w.walk here greatest popped wait from-falls;
      known = λ p e. known p (or_cases (is_in (k ∷ taken) p) (new p) e);
    }
      where
        at_first : (p : ℕ) → old p ≡ true → p < length rows
        at_first p e = w.known p (or_right (is_in taken p) (old p) e)

        of_mid : (p : ℕ) → mid p ≡ true → (b : Bool) → is_eq (nat_cmp k p) ≡ b → p < length rows
        of_mid p e true f = absurd (cc (sym e ∙ popped p ∙ ap (λ b. cond b false (old p)) f))
        of_mid p e false f = at_first p (sym (popped p ∙ ap (λ b. cond b false (old p)) f) ∙ e)

        of_new : (p : ℕ) → (mid p ≡ true) ⊎ (is_in (cites_from rows least k) p ≡ true) → p < length rows
        of_new p (inl e) = of_mid p e (is_eq (nat_cmp k p)) refl
        of_new p (inr e) = from-known k p e

        of_taken : (p : ℕ) → In p (k ∷ taken) → p < length rows
        of_taken p (inl e) = subst (λ q. q < length rows) (sym e) (at_first k here)
        of_taken p (inr m) = w.known p (or_left (is_in taken p) (old p) (is_in-from p taken m))

        known : (p : ℕ) → (is_in (k ∷ taken) p ≡ true) ⊎ (new p ≡ true) → p < length rows
        known p (inl e) = of_taken p (is_in-to p (k ∷ taken) e)
        known p (inr e) = of_new p (or_cases (mid p) (is_in (cites_from rows least k) p) (sym (wait p) ∙ e))

rises-distinct : (xs : List ℕ) → Rises xs → Distinct xs
rises-distinct [] r = tt
rises-distinct (x ∷ xs) r = (λ k. let l : x < x = r.0 x (is_in-from x xs k) in absurd (omega (arith, l)), rises-distinct xs r.1)

-- one set of first rows, by two tests
pub all_from-same : (cites : ℕ → List ℕ) (first other all : ℕ → Bool) → ((p : ℕ) → first p ≡ other p) → IsAllFrom cites first all → IsAllFrom cites other all
all_from-same cites first other all e a = record {
  has_first = λ p k. a.has_first p (e p ∙ k);
  closed = a.closed;
  least = λ test has closed p k. a.least test (λ q m. has q (sym (e q) ∙ m)) closed p k;
}

-- what was walked over, without the events
pub passed-are : (rows : List Row) (events walked passed : List ℕ) (least : ℕ) (first : ℕ → Bool) → All (λ x. least ≤ x) events → ((p : ℕ) → first p ≡ is_in events p) → Rises walked → ((p : ℕ) → is_in walked p ≡ true → p < length rows)
    → IsAllFrom (cites_from rows least) first (is_in walked) → passed ≡ filter (λ p. not (first p)) walked → ArePassed rows events passed
passed-are rows events walked passed least first low starts rises known all e = record {
  least = least;
  low = λ x k. above x (is_in-from x walked (to_walked x k));
  closed = λ x y k m. from_walked y (is_in-to y walked (all.closed x y (is_in-from x walked (to_walked x k)) m));
  known = λ x k. known x (is_in-from x walked (passed-parts x k).0);
  distinct = subst Distinct (sym e) (filter-distinct (λ p. not (first p)) walked (rises-distinct walked rises));
  apart = λ x k m. absurd (cc (sym (passed-parts x k).1 ∙ ap not (starts x ∙ is_in-from x events m)));
}
  where
    passed-parts : (x : ℕ) → In x passed → In x walked × (not (first x) ≡ true)
    passed-parts x k = in_filter-parts (λ p. not (first p)) x walked (subst (λ ys. In x ys) e k)

    to_walked : (x : ℕ) → In x (passed ++ events) → In x walked
    to_walked x k = by (in_append-cases x passed events k)
      where
        by : In x passed ⊎ In x events → In x walked
        by (inl m) = (passed-parts x m).0
        by (inr m) = is_in-to x walked (all.has_first x (starts x ∙ is_in-from x events m))

    from_walked : (x : ℕ) → In x walked → In x (passed ++ events)
    from_walked x k = by (first x) refl
      where
        by : (b : Bool) → first x ≡ b → In x (passed ++ events)
        by true f = in_append-right x passed events (is_in-to x events (sym (starts x) ∙ f))
        by false f = in_append-left x passed events (subst (λ ys. In x ys) (sym e) (in_filter (λ p. not (first p)) x walked k (ap not f)))

    above : (x : ℕ) → is_in walked x ≡ true → least ≤ x
    above x k = leb-true least x (all.least (nat_le least) (λ p f. le-leb least p (all-at (λ x. least ≤ x) events low p (is_in-to p events (sym (starts p) ∙ f)))) (λ p q f m. (in_filter-parts (nat_le least) q _ (is_in-to q _ m)).1) x k)
