-- What some events cite.
use Rattle.std.proofs.Common.{◌≡◌, ℕ, ◌==◌, ◌<◌, Bool, true, ◌||◌, ◌⊎◌, inl, inr, List, [], ◌∷◌, flat_map, length, refl, sym, ap, ◌∙◌, eq-eqb, eqb-true}
use Rattle.mx_graph.specs.Record.{Row, is_in}
use Rattle.mx_graph.specs.Edges.{IsAllFrom}
use Rattle.mx_graph.specs.Graph.{IsLeastClosed, IsSound}
use Rattle.mx_graph.proofs.Closure.{or_cases, or_left, or_right}
use Rattle.mx_state_res.specs.Masks.{is_cited_by}
use Rattle.mx_state_res.specs.ChainDifference.{cites, is_cited}
use Rattle.mx_state_res.proofs.SetLemmas.{is_in-append}
use Rattle.mx_state_res.proofs.TestLemmas.{one-answer}

module _ (cites : ℕ → List ℕ) where
  pub cited-from : (starts : List ℕ) (x y : ℕ) → is_in starts x ≡ true → is_in (cites x) y ≡ true → is_cited_by cites starts y ≡ true
  cited-from [] x y e c = absurd (cc e)
  cited-from (s ∷ ss) x y e c = by (cited-from ss x y) (or_cases (s == x) _ e)
    where
      by : (is_in ss x ≡ true → is_in (cites x) y ≡ true → is_cited_by cites ss y ≡ true) → ((s == x) ≡ true) ⊎ (is_in ss x ≡ true) → is_cited_by cites (s ∷ ss) y ≡ true
      by later (inl f) = or_left (is_in (cites s) y) _ (ap (λ z. is_in (cites z) y) (eqb-true s x f) ∙ c)
      by later (inr f) = or_right (is_in (cites s) y) _ (later f c)

  pub cited-to : (starts : List ℕ) (y : ℕ) → is_cited_by cites starts y ≡ true → (x : ℕ) × (is_in starts x ≡ true) × (is_in (cites x) y ≡ true)
  cited-to [] y e = absurd (cc e)
  cited-to (s ∷ ss) y e = by (cited-to ss y) (or_cases (is_in (cites s) y) _ e)
    where
      by : (is_cited_by cites ss y ≡ true → (x : ℕ) × (is_in ss x ≡ true) × (is_in (cites x) y ≡ true)) → (is_in (cites s) y ≡ true) ⊎ (is_cited_by cites ss y ≡ true) → (x : ℕ) × (is_in (s ∷ ss) x ≡ true) × (is_in (cites x) y ≡ true)
      by later (inl f) = (s, or_left (s == s) _ (eq-eqb s s refl), f)
      by later (inr f) = let r = later f in (r.0, or_right (s == r.0) _ r.1, r.2)

  -- the same events cite the same
  pub cited-same : (xs ys : List ℕ) → ((p : ℕ) → is_in xs p ≡ is_in ys p) → (y : ℕ) → is_cited_by cites xs y ≡ is_cited_by cites ys y
  cited-same xs ys same y =
      one-answer (is_cited_by cites xs y) (is_cited_by cites ys y)
      (λ e. let r = cited-to xs y e in cited-from ys r.0 y (sym (same r.0) ∙ r.1) r.2)
      (λ e. let r = cited-to ys y e in cited-from xs r.0 y (same r.0 ∙ r.1) r.2)

  -- what the events cite, of one after another
  pub cited-joined : (starts : List ℕ) (y : ℕ) → is_in (flat_map cites starts) y ≡ is_cited_by cites starts y
  cited-joined [] y = refl
  cited-joined (s ∷ ss) y = is_in-append (cites s) (flat_map cites ss) y ∙ ap (λ b. is_in (cites s) y || b) (cited-joined ss y)

-- what is cited is one of the rows
pub cited-known : (rows : List Row) → IsSound rows → (starts : List ℕ) (p : ℕ) → is_cited rows starts p ≡ true → p < length rows
cited-known rows sound starts p e = let r = cited-to (cites rows) starts p e in (sound.auth r.0 p r.2).0

-- the chain of a set, from what the set cites
pub all-from : (rows : List Row) (starts : List ℕ) (first reach : ℕ → Bool) → ((p : ℕ) → first p ≡ is_cited rows starts p) → IsLeastClosed (cites rows) starts reach → IsAllFrom (cites rows) first reach
all-from rows starts first reach same least =
    record {
      has_first = λ p e. let r = cited-to (cites rows) starts p (sym (same p) ∙ e) in least.0 r.0 p (or_left (is_in starts r.0) (reach r.0) r.1) r.2;
      closed = λ x y e m. least.0 x y (or_right (is_in starts x) (reach x) e) m;
      least = λ other has closed p e. least.1 other (λ x y h m. goes other has closed x y (or_cases (is_in starts x) (other x) h) m) p e;
    }
  where
    goes : (other : ℕ → Bool) → ((p : ℕ) → first p ≡ true → other p ≡ true) → ((x y : ℕ) → other x ≡ true → is_in (cites rows x) y ≡ true → other y ≡ true) → (x y : ℕ) → (is_in starts x ≡ true) ⊎ (other x ≡ true) → is_in (cites rows x) y ≡ true → other y ≡ true
    goes other has closed x y (inl e) m = has y (same y ∙ cited-from (cites rows) starts x y e m)
    goes other has closed x y (inr e) m = closed x y e m
