-- Chains of joined sets, and where the chains of several sets differ.
use Rattle.std.proofs.Common.{◌≡◌, ℕ, Bool, true, false, not, ◌&&◌, ◌||◌, ◌⊎◌, inl, inr, List, [], ◌∷◌, map, refl, sym, ap, ap₂, ◌∙◌}
use Rattle.std.specs.List.{list_any, list_all, AllZip}
use Rattle.mx_graph.specs.Record.{Row, is_in, places}
use Rattle.mx_graph.specs.Graph.{auth_chain, IsClosed, IsLeastClosed, IsSound}
use Rattle.mx_graph.proofs.Closure.{or_cases, or_left, or_right, same_tests, same_closed}
use Rattle.mx_graph.proofs.ReachedLemmas.{closures-least}
use Rattle.mx_graph.specs.StateMap.{State, events_of}
use Rattle.mx_state_res.specs.Resolution.{auth_difference}
use Rattle.mx_state_res.specs.ChainDifference.{chain_difference, cites}
use Rattle.mx_state_res.proofs.TestLemmas.{and-true, and-false}

-- ---- the chain of a joined set

pub chain-least : (rows : List Row) (starts : List ℕ) → IsSound rows → IsLeastClosed (cites rows) starts (is_in (auth_chain rows starts))
chain-least rows starts sound = (closures-least rows starts sound).1

module _ (rows : List Row) (sound : IsSound rows) (shared others events : List ℕ) (made : (p : ℕ) → is_in events p ≡ (is_in shared p || is_in others p)) where
  both : ℕ → Bool
  both p = is_in (auth_chain rows shared) p || is_in (auth_chain rows others) p

  both-closed : IsClosed (cites rows) events both
  unfolding both
  both-closed x y h k = by (or_cases (is_in events x) (both x) h)
    where
      left : (is_in shared x || is_in (auth_chain rows shared) x) ≡ true → both y ≡ true
      left e = or_left (is_in (auth_chain rows shared) y) _ ((chain-least rows shared sound).0 x y e k)

      right : (is_in others x || is_in (auth_chain rows others) x) ≡ true → both y ≡ true
      right e = or_right (is_in (auth_chain rows shared) y) _ ((chain-least rows others sound).0 x y e k)

      start : (is_in shared x ≡ true) ⊎ (is_in others x ≡ true) → both y ≡ true
      start (inl e) = left (or_left (is_in shared x) _ e)
      start (inr e) = right (or_left (is_in others x) _ e)

      later : (is_in (auth_chain rows shared) x ≡ true) ⊎ (is_in (auth_chain rows others) x ≡ true) → both y ≡ true
      later (inl e) = left (or_right (is_in shared x) _ e)
      later (inr e) = right (or_right (is_in others x) _ e)

      by : (is_in events x ≡ true) ⊎ (both x ≡ true) → both y ≡ true
      by (inl e) = start (or_cases (is_in shared x) (is_in others x) (sym (made x) ∙ e))
      by (inr e) = later (or_cases (is_in (auth_chain rows shared) x) (is_in (auth_chain rows others) x) e)

  both-least : (other : ℕ → Bool) → IsClosed (cites rows) events other → (p : ℕ) → both p ≡ true → other p ≡ true
  unfolding both
  both-least other c p e = by (or_cases (is_in (auth_chain rows shared) p) (is_in (auth_chain rows others) p) e)
    where
      narrow : (starts : List ℕ) → ((x : ℕ) → is_in starts x ≡ true → is_in events x ≡ true) → IsClosed (cites rows) starts other
      narrow starts within x y h k = c x y (from (or_cases (is_in starts x) (other x) h)) k
        where
          from : (is_in starts x ≡ true) ⊎ (other x ≡ true) → (is_in events x || other x) ≡ true
          from (inl m) = or_left (is_in events x) (other x) (within x m)
          from (inr m) = or_right (is_in events x) (other x) m

      by : (is_in (auth_chain rows shared) p ≡ true) ⊎ (is_in (auth_chain rows others) p ≡ true) → other p ≡ true
      by (inl m) = (chain-least rows shared sound).1 other (narrow shared (λ x w. made x ∙ or_left (is_in shared x) (is_in others x) w)) p m
      by (inr m) = (chain-least rows others sound).1 other (narrow others (λ x w. made x ∙ or_right (is_in shared x) (is_in others x) w)) p m

  -- the chain of a set is the chains of its parts
  pub chain-joined : (p : ℕ) → is_in (auth_chain rows events) p ≡ (is_in (auth_chain rows shared) p || is_in (auth_chain rows others) p)
  unfolding both
  chain-joined p = same_closed (cites rows) events (is_in (auth_chain rows events)) both (chain-least rows events sound) (both-closed, both-least) p

-- ---- where several differ

module _ {A B : Type 0} (f : A → Bool) (g : B → Bool) where
  -- each of the second is the first's, or u
  abbrev Widened : Bool → List A → List B → Type 0
  Widened u xs ys = AllZip (λ x y. g y ≡ (u || f x)) xs ys

  any-same : (xs : List A) (ys : List B) → Widened false xs ys → list_any g ys ≡ list_any f xs
  any-same [] [] h = refl
  any-same [] (y ∷ ys) h = absurd h
  any-same (x ∷ xs) [] h = absurd h
  any-same (x ∷ xs) (y ∷ ys) h = ap₂ (λ a b. a || b) h.0 (any-same xs ys h.1)

  all-same : (xs : List A) (ys : List B) → Widened false xs ys → list_all g ys ≡ list_all f xs
  all-same [] [] h = refl
  all-same [] (y ∷ ys) h = absurd h
  all-same (x ∷ xs) [] h = absurd h
  all-same (x ∷ xs) (y ∷ ys) h = ap₂ (λ a b. a && b) h.0 (all-same xs ys h.1)

  all-true : (xs : List A) (ys : List B) → Widened true xs ys → list_all g ys ≡ true
  all-true [] [] h = refl
  all-true [] (y ∷ ys) h = absurd h
  all-true (x ∷ xs) [] h = absurd h
  all-true (x ∷ xs) (y ∷ ys) h = ap₂ (λ a b. a && b) h.0 (all-true xs ys h.1)

  -- what differs, differs beside u
  pub differ-same : (u : Bool) (xs : List A) (ys : List B) → Widened u xs ys → (list_any g ys && not (list_all g ys)) ≡ ((list_any f xs && not (list_all f xs)) && not u)
  differ-same true xs ys h =
      and-false (list_any g ys) (not (list_all g ys)) (ap not (all-true xs ys h)) ∙ sym (and-false (list_any f xs && not (list_all f xs)) false refl)
  differ-same false xs ys h =
      ap₂ (λ a b. a && not b) (any-same xs ys h) (all-same xs ys h) ∙ sym (and-true (list_any f xs && not (list_all f xs)) true refl)

zip-map : {A B C D : Type 0} (f : A → C) (g : B → D) (R : A → B → Type 0) (S : C → D → Type 0) → ((x : A) (y : B) → R x y → S (f x) (g y)) → (xs : List A) (ys : List B) → AllZip R xs ys → AllZip S (map f xs) (map g ys)
zip-map f g R S h [] [] k = tt
zip-map f g R S h [] (y ∷ ys) k = absurd k
zip-map f g R S h (x ∷ xs) [] k = absurd k
zip-map f g R S h (x ∷ xs) (y ∷ ys) k = (h x y k.0, zip-map f g R S h xs ys k.1)

-- the test of the difference, from chains of sets that have the shared events and the others
pub difference-test : (rows : List Row) (shared : List ℕ) (apart sets : List (List ℕ)) → IsSound rows → AllZip (λ others events. (p : ℕ) → is_in events p ≡ (is_in shared p || is_in others p)) apart sets → (p : ℕ)
    → (list_any (λ chain. is_in chain p) (map (auth_chain rows) sets) && not (list_all (λ chain. is_in chain p) (map (auth_chain rows) sets)))
    ≡ ((list_any (λ chain. is_in chain p) (map (auth_chain rows) apart) && not (list_all (λ chain. is_in chain p) (map (auth_chain rows) apart))) && not (is_in (auth_chain rows shared) p))
difference-test rows shared apart sets sound made p =
    differ-same (λ chain. is_in chain p) (λ chain. is_in chain p) (is_in (auth_chain rows shared) p) (map (auth_chain rows) apart) (map (auth_chain rows) sets)
    (zip-map (auth_chain rows) (auth_chain rows) (λ others events. (p : ℕ) → is_in events p ≡ (is_in shared p || is_in others p)) _ (λ others events m. chain-joined rows sound shared others events m p) apart sets made)

map-events : (rows : List Row) (states : List State) → map (λ s. auth_chain rows (events_of s)) states ≡ map (auth_chain rows) (map events_of states)
map-events rows [] = refl
map-events rows (s ∷ ss) = ap (λ cs. auth_chain rows (events_of s) ∷ cs) (map-events rows ss)

-- the auth difference of states is the difference of the chains of what they don't share
pub difference-of-others : (rows : List Row) (shared : List ℕ) (apart : List (List ℕ)) (states : List State) → IsSound rows → AllZip (λ others events. (p : ℕ) → is_in events p ≡ (is_in shared p || is_in others p)) apart (map events_of states)
    → auth_difference rows states ≡ chain_difference rows shared apart
unfolding auth_difference chain_difference
difference-of-others rows shared apart states sound made =
    same_tests _ _ (places rows)
    (λ p k. ap (λ cs. list_any (λ chain. is_in chain p) cs && not (list_all (λ chain. is_in chain p) cs)) (map-events rows states)
    ∙ difference-test rows shared apart (map events_of states) sound made p)
