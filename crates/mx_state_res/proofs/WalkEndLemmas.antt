-- What the walk found is the difference of the chains.
use Rattle.std.proofs.Common.{◌≡◌, ℕ, zero, suc, ◌<◌, nat_lt, Bool, true, false, not, ◌&&◌, ◌||◌, ◌⊎◌, inl, inr, List, [], ◌∷◌, ◌++◌, length, map, get_or, sym, ap, ap₂, subst, ◌∙◌, arith}
use Rattle.std.proofs.lemmas.List.Folds.{list_any-append, list_any_at, list_all_at}
use Rattle.std.specs.List.{list_any, list_all, AllZip}
use Rattle.mx_graph.specs.Record.{Row, is_in}
use Rattle.mx_graph.specs.Edges.{Rises, IsAllFrom}
use Rattle.mx_graph.specs.Graph.{auth_chain, is_in_difference, IsSound}
use Rattle.mx_graph.proofs.Closure.{or_cases}
use Rattle.mx_state_res.proofs.SetLemmas.{is_in-append, list_any-map, list_all-map, rising-is}
use Rattle.mx_state_res.specs.ChainDifference.{chain_difference, cites, is_cited}
use Rattle.mx_state_res.specs.Masks.{IsApart, ArePartOf}
use Rattle.mx_state_res.proofs.TestLemmas.{and-first, and-second, and-make, and-cases, not-true, one-answer, or-turned, lt-from, lt-to}
use Rattle.mx_state_res.proofs.CitedLemmas.{all-from}
use Rattle.mx_state_res.proofs.ChainLemmas.{chain-least, difference-test}

-- ---- tests at places

module _ {A : Type 0} (f : A → Bool) (d : A) where
  any-at : (xs : List A) → list_any f xs ≡ true → (i : ℕ) × (i < length xs) × (f (get_or xs i d) ≡ true)
  any-at [] e = absurd (cc e)
  any-at (x ∷ xs) e = by (any-at xs) (or_cases (f x) _ e)
    where
      by : (list_any f xs ≡ true → (i : ℕ) × (i < length xs) × (f (get_or xs i d) ≡ true)) → (f x ≡ true) ⊎ (list_any f xs ≡ true) → (i : ℕ) × (i < length (x ∷ xs)) × (f (get_or (x ∷ xs) i d) ≡ true)
      by later (inl g) = (zero, omega arith, g)
      by later (inr g) = let r = later g in let l : r.0 < length xs = r.1 in (suc r.0, omega arith, r.2)

  lack-at : (xs : List A) → list_all f xs ≡ false → (i : ℕ) × (i < length xs) × (f (get_or xs i d) ≡ false)
  lack-at [] e = absurd (cc e)
  lack-at (x ∷ xs) e = by (lack-at xs) (and-cases (f x) _ e)
    where
      by : (list_all f xs ≡ false → (i : ℕ) × (i < length xs) × (f (get_or xs i d) ≡ false)) → (f x ≡ false) ⊎ (list_all f xs ≡ false) → (i : ℕ) × (i < length (x ∷ xs)) × (f (get_or (x ∷ xs) i d) ≡ false)
      by later (inl g) = (zero, omega arith, g)
      by later (inr g) = let r = later g in let l : r.0 < length xs = r.1 in (suc r.0, omega arith, r.2)

-- ---- what was found

module _ (rows : List Row) (sound : IsSound rows) (shared : List ℕ) (lists : List (List ℕ)) where
  -- the chain of a state
  abbrev reach : ℕ → ℕ → Bool
  reach i p = is_in (auth_chain rows (shared ++ get_or lists i [])) p

  -- in some chains and not in all
  abbrev test : ℕ → Bool
  test p = list_any (λ others. is_in (auth_chain rows (shared ++ others)) p) lists && not (list_all (λ others. is_in (auth_chain rows (shared ++ others)) p) lists)

  apart-to : (p : ℕ) → IsApart (length lists) reach p → test p ≡ true
  apart-to p a =
      and-make (list_any (λ others. is_in (auth_chain rows (shared ++ others)) p) lists) _
      (list_any_at (λ others. is_in (auth_chain rows (shared ++ others)) p) lists a.in_some.0 [] a.in_some.1 a.in_some.2)
      (ap not (list_all_at (λ others. is_in (auth_chain rows (shared ++ others)) p) lists a.not_in_all.0 [] a.not_in_all.1 a.not_in_all.2))

  apart-from : (p : ℕ) → test p ≡ true → IsApart (length lists) reach p
  apart-from p e =
      record {
        in_some = any-at (λ others. is_in (auth_chain rows (shared ++ others)) p) [] lists (and-first (list_any (λ others. is_in (auth_chain rows (shared ++ others)) p) lists) _ e);
        not_in_all = lack-at (λ others. is_in (auth_chain rows (shared ++ others)) p) [] lists (not-true _ (and-second (list_any (λ others. is_in (auth_chain rows (shared ++ others)) p) lists) _ e));
      }

  zipped : (ls : List (List ℕ)) → AllZip (λ others events. (p : ℕ) → is_in events p ≡ (is_in shared p || is_in others p)) ls (map (λ others. shared ++ others) ls)
  zipped [] = tt
  zipped (l ∷ ls) = (λ p. is_in-append shared l p, zipped ls)

  test-is : (p : ℕ) → test p
      ≡ ((list_any (λ chain. is_in chain p) (map (auth_chain rows) lists) && not (list_all (λ chain. is_in chain p) (map (auth_chain rows) lists))) && not (is_in (auth_chain rows shared) p))
  test-is p =
      ap₂ (λ a b. a && not b)
      (list_any-map (λ others. shared ++ others) (λ s. is_in (auth_chain rows s) p) lists ∙ list_any-map (auth_chain rows) (λ chain. is_in chain p) (map (λ others. shared ++ others) lists))
      (list_all-map (λ others. shared ++ others) (λ s. is_in (auth_chain rows s) p) lists ∙ list_all-map (auth_chain rows) (λ chain. is_in chain p) (map (λ others. shared ++ others) lists))
      ∙ difference-test rows shared lists (map (λ others. shared ++ others) lists) sound (zipped lists) p

  pub found-is : (first : ℕ → ℕ → Bool) (states : ℕ) (found : List ℕ) → states ≡ length lists → Rises found → ((p i : ℕ) → i < length lists → first p i ≡ (is_cited rows (get_or lists i []) p || is_cited rows shared p))
      → ArePartOf states (cites rows) first found → found ≡ chain_difference rows shared lists
  unfolding chain_difference
  found-is first states found long rises due part = rising-is rows found _ rises known (λ p. same p ∙ test-is p)
    where
      here : ArePartOf (length lists) (cites rows) first found
      here = subst (λ n. ArePartOf n (cites rows) first found) long part

      all : (i : ℕ) → i < length lists → IsAllFrom (cites rows) (λ p. first p i) (reach i)
      all i l =
          all-from rows (shared ++ get_or lists i []) (λ p. first p i) (reach i)
          (λ p. due p i l ∙ or-turned (is_cited rows (get_or lists i []) p) (is_cited rows shared p) ∙ sym (list_any-append (λ s. is_in (cites rows s) p) shared (get_or lists i [])))
          (chain-least rows (shared ++ get_or lists i []) sound)

      same : (p : ℕ) → is_in found p ≡ test p
      same p = one-answer (is_in found p) (test p) (λ e. apart-to p ((here reach all p).0 e)) (λ e. (here reach all p).1 (apart-from p e))

      known : (p : ℕ) → is_in found p ≡ true → p < length rows
      known p e =
          let a = (here reach all p).0 e in
          lt-from p (length rows) ((chain-least rows (shared ++ get_or lists a.in_some.0 []) sound).1 (λ z. nat_lt z (length rows)) (λ x y h c. lt-to y (length rows) (sound.auth x y c).0) p a.in_some.2)

-- ---- what the graph tells

module _ (rows : List Row) (sound : IsSound rows) where
  chain-known : (starts : List ℕ) (p : ℕ) → is_in (auth_chain rows starts) p ≡ true → p < length rows
  chain-known starts p e = lt-from p (length rows) ((chain-least rows starts sound).1 (λ z. nat_lt z (length rows)) (λ x y h c. lt-to y (length rows) (sound.auth x y c).0) p e)

  some-known : (lists : List (List ℕ)) (p : ℕ) → list_any (λ chain. is_in chain p) (map (auth_chain rows) lists) ≡ true → p < length rows
  some-known [] p e = absurd (cc e)
  some-known (l ∷ lists) p e = by (some-known lists p) (or_cases (is_in (auth_chain rows l) p) (list_any (λ chain. is_in chain p) (map (auth_chain rows) lists)) e)
    where
      by : (list_any (λ chain. is_in chain p) (map (auth_chain rows) lists) ≡ true → p < length rows) → (is_in (auth_chain rows l) p ≡ true) ⊎ (list_any (λ chain. is_in chain p) (map (auth_chain rows) lists) ≡ true) → p < length rows
      by later (inl k) = chain-known l p k
      by later (inr k) = later k

  pub told-is : (shared : List ℕ) (lists : List (List ℕ)) (found : List ℕ) → Rises found → ((p : ℕ) → is_in found p ≡ is_in_difference rows shared lists p) → found ≡ chain_difference rows shared lists
  unfolding chain_difference
  told-is shared lists found rises same = rising-is rows found _ rises known same
    where
      known : (p : ℕ) → is_in found p ≡ true → p < length rows
      known p e =
          some-known lists p
          (and-first (list_any (λ chain. is_in chain p) (map (auth_chain rows) lists)) _ (and-first (list_any (λ chain. is_in chain p) (map (auth_chain rows) lists) && not (list_all (λ chain. is_in chain p) (map (auth_chain rows) lists))) _ (sym (same p) ∙ e)))
