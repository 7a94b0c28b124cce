-- The auth chains of some sets differ at none but some events that the sets have, where what these cite is among them or in
-- the chains of all sets.
use Rattle.std.proofs.Common.{◌≡◌, ℕ, Bool, true, false, not, ◌&&◌, ◌||◌, ◌⊎◌, inl, inr, List, [], ◌∷◌, flat_map, map, refl, sym, ap, ◌∙◌}
use Rattle.std.specs.List.{All, AllZip, list_any, list_all}
use Rattle.mx_graph.specs.Record.{Row, is_in, places}
use Rattle.mx_graph.specs.Graph.{auth_chain, IsClosed, IsSound}
use Rattle.mx_graph.proofs.Closure.{or_cases, or_left, or_right, is_in-from, is_in-to}
use Rattle.mx_graph.proofs.Members.{In, in_filter-parts, in_flat_map}
use Rattle.mx_state_res.specs.ChainDifference.{CiteWithin, chain_difference, cites, is_cited, is_within}
use Rattle.mx_state_res.proofs.ChainLemmas.{chain-least}
use Rattle.mx_state_res.proofs.CitedLemmas.{cited-from}
use Rattle.mx_state_res.proofs.SetLemmas.{all-at, all-of, list_all-map}
use Rattle.mx_state_res.proofs.TestLemmas.{and-first, and-make, and-second, not-true}

module _ (rows : List Row) (sound : IsSound rows) (sets : List (List ℕ)) (events : List ℕ) (own : (others : List ℕ) → In others sets → (p : ℕ) → is_in others p ≡ true → is_in events p ≡ true) (cite : CiteWithin rows sets events) where
  cited-within : (x y : ℕ) → is_in events x ≡ true → is_in (cites rows x) y ≡ true → is_within rows sets events y ≡ true
  cited-within x y m k =
      all-at (λ y. is_within rows sets events y ≡ true) (cites rows x)
      (all-at (λ x. All (λ y. is_within rows sets events y ≡ true) (cites rows x)) events cite x (is_in-to x events m)) y (is_in-to y (cites rows x) k)

  -- what an event of all chains cites is in all chains
  all-cite : (some : List (List ℕ)) (x y : ℕ) → list_all (λ others. is_in (auth_chain rows others) x) some ≡ true → is_in (cites rows x) y ≡ true → list_all (λ others. is_in (auth_chain rows others) y) some ≡ true
  all-cite [] x y h k = refl
  all-cite (others ∷ some) x y h k =
      and-make (is_in (auth_chain rows others) y) _ ((chain-least rows others sound).0 x y (or_right (is_in others x) _ (and-first (is_in (auth_chain rows others) x) _ h)) k)
      (all-cite some x y (and-second (is_in (auth_chain rows others) x) _ h) k)

  closed : (others : List ℕ) → In others sets → IsClosed (cites rows) others (is_within rows sets events)
  closed others m x y h k = by (or_cases (is_in others x) (is_within rows sets events x) h)
    where
      later : (is_in events x ≡ true) ⊎ (list_all (λ others. is_in (auth_chain rows others) x) sets ≡ true) → is_within rows sets events y ≡ true
      later (inl e) = cited-within x y e k
      later (inr e) = or_right (is_in events y) _ (all-cite sets x y e k)

      by : (is_in others x ≡ true) ⊎ (is_within rows sets events x ≡ true) → is_within rows sets events y ≡ true
      by (inl e) = cited-within x y (own others m x e) k
      by (inr e) = later (or_cases (is_in events x) _ e)

  chain-within : (others : List ℕ) → In others sets → (p : ℕ) → is_in (auth_chain rows others) p ≡ true → is_within rows sets events p ≡ true
  chain-within others m p e = (chain-least rows others sound).1 (is_within rows sets events) (closed others m) p e

  any-within : (some : List (List ℕ)) → ((others : List ℕ) → In others some → In others sets) → (p : ℕ) → list_any (λ chain. is_in chain p) (map (auth_chain rows) some) ≡ true → is_within rows sets events p ≡ true
  any-within [] f p e = absurd (cc e)
  any-within (others ∷ some) f p e = by (any-within some (λ o m. f o (inr m)) p) (or_cases (is_in (auth_chain rows others) p) _ e)
    where
      by : (list_any (λ chain. is_in chain p) (map (auth_chain rows) some) ≡ true → is_within rows sets events p ≡ true)
          → (is_in (auth_chain rows others) p ≡ true) ⊎ (list_any (λ chain. is_in chain p) (map (auth_chain rows) some) ≡ true) → is_within rows sets events p ≡ true
      by later (inl k) = chain-within others (f others (inl refl)) p k
      by later (inr k) = later k

  pub difference-within : (shared : List ℕ) (p : ℕ) → is_in (chain_difference rows shared sets) p ≡ true → is_in events p ≡ true
  unfolding chain_difference
  difference-within shared p e =
      let chains : List (List ℕ) = map (auth_chain rows) sets in
      let any : Bool = list_any (λ chain. is_in chain p) chains in
      let all : Bool = list_all (λ chain. is_in chain p) chains in
      let test : ((any && not all) && not (is_in (auth_chain rows shared) p)) ≡ true =
      (in_filter-parts (λ p. (list_any (λ chain. is_in chain p) (map (auth_chain rows) sets) && not (list_all (λ chain. is_in chain p) (map (auth_chain rows) sets))) && not (is_in (auth_chain rows shared) p)) p (places rows)
      (is_in-to p _ e)).1 in
      let some : any ≡ true = and-first any _ (and-first (any && not all) _ test) in
      let every : all ≡ false = not-true all (and-second any _ (and-first (any && not all) _ test)) in
      by (or_cases (is_in events p) _ (any-within sets (λ o m. m) p some)) every
    where
      by : (is_in events p ≡ true) ⊎ (list_all (λ others. is_in (auth_chain rows others) p) sets ≡ true) → list_all (λ chain. is_in chain p) (map (auth_chain rows) sets) ≡ false → is_in events p ≡ true
      by (inl k) f = k
      by (inr k) f = absurd (cc (sym k ∙ list_all-map (auth_chain rows) (λ chain. is_in chain p) sets ∙ f))

-- ---- from what they cite beside themselves

-- where each event that they cite beside themselves is in all chains, they cite so
pub cite-within : (rows : List Row) (sets : List (List ℕ)) (events others : List ℕ) → ((p : ℕ) → is_in others p ≡ (is_cited rows events p && not (is_in events p)))
    → All (λ p. list_all (λ set. is_in (auth_chain rows set) p) sets ≡ true) others → CiteWithin rows sets events
cite-within rows sets events others beside each =
    all-of (λ x. All (λ y. is_within rows sets events y ≡ true) (cites rows x)) events
    (λ x m. all-of (λ y. is_within rows sets events y ≡ true) (cites rows x)
    (λ y k. by y (is_in events y) refl (cited-from (cites rows) events x y (is_in-from x events m) (is_in-from y (cites rows x) k))))
  where
    by : (y : ℕ) (b : Bool) → is_in events y ≡ b → is_cited rows events y ≡ true → is_within rows sets events y ≡ true
    by y true e c = or_left (is_in events y) _ e
    by y false e c =
        or_right (is_in events y) _
        (all-at (λ p. list_all (λ set. is_in (auth_chain rows set) p) sets ≡ true) others each y
        (is_in-to y others (beside y ∙ and-make (is_cited rows events y) _ c (ap not e))))

-- ---- from parts of the sets

-- all that the one list has
abbrev pub IsPart : List ℕ → List ℕ → Type 0
IsPart xs ys = (p : ℕ) → is_in xs p ≡ true → is_in ys p ≡ true

module _ (rows : List Row) (sound : IsSound rows) where
  chain-more : (xs ys : List ℕ) → IsPart xs ys → (p : ℕ) → is_in (auth_chain rows xs) p ≡ true → is_in (auth_chain rows ys) p ≡ true
  chain-more xs ys part = (chain-least rows xs sound).1 (is_in (auth_chain rows ys)) closed-there
    where
      closed-there : IsClosed (cites rows) xs (is_in (auth_chain rows ys))
      closed-there x y h k = (chain-least rows ys sound).0 x y (by (or_cases (is_in xs x) _ h)) k
        where
          by : (is_in xs x ≡ true) ⊎ (is_in (auth_chain rows ys) x ≡ true) → (is_in ys x || is_in (auth_chain rows ys) x) ≡ true
          by (inl e) = or_left (is_in ys x) _ (part x e)
          by (inr e) = or_right (is_in ys x) _ e

  all-more : (parts sets : List (List ℕ)) → AllZip IsPart parts sets → (p : ℕ)
      → list_all (λ set. is_in (auth_chain rows set) p) parts ≡ true
      → list_all (λ set. is_in (auth_chain rows set) p) sets ≡ true
  all-more [] [] h p e = refl
  all-more [] (set ∷ sets) h p e = absurd h
  all-more (part ∷ parts) [] h p e = absurd h
  all-more (part ∷ parts) (set ∷ sets) h p e =
      and-make (is_in (auth_chain rows set) p) _
      (chain-more part set h.0 p (and-first (is_in (auth_chain rows part) p) _ e))
      (all-more parts sets h.1 p (and-second (is_in (auth_chain rows part) p) _ e))

  -- what is in the chains of parts is in those of the sets
  pub within-more : (parts sets : List (List ℕ)) (events : List ℕ) → AllZip IsPart parts sets → CiteWithin rows parts events → CiteWithin rows sets events
  within-more parts sets events h cite =
      all-of (λ x. All (λ y. is_within rows sets events y ≡ true) (cites rows x)) events
      (λ x m. all-of (λ y. is_within rows sets events y ≡ true) (cites rows x)
      (λ y k. by y (or_cases (is_in events y) _
      (all-at (λ y. is_within rows parts events y ≡ true) (cites rows x) (all-at (λ x. All (λ y. is_within rows parts events y ≡ true) (cites rows x)) events cite x m) y k))))
    where
      by : (y : ℕ) → (is_in events y ≡ true) ⊎ (list_all (λ set. is_in (auth_chain rows set) y) parts ≡ true) → is_within rows sets events y ≡ true
      by y (inl e) = or_left (is_in events y) _ e
      by y (inr e) = or_right (is_in events y) _ (all-more parts sets h y e)

-- ---- where the sets have no others

-- where they cite so, the difference adds nothing to them
pub difference-adds-none : (rows : List Row) → IsSound rows
    → (shared : List ℕ) (sets : List (List ℕ)) (events : List ℕ)
    → ((p : ℕ) → is_in events p ≡ is_in (flat_map (λ xs. xs) sets) p) → CiteWithin rows sets events
    → (p : ℕ) → is_in events p ≡ (is_in (flat_map (λ xs. xs) sets) p || is_in (chain_difference rows shared sets) p)
difference-adds-none rows sound shared sets events same cite p =
    by (is_in events p) (is_in (chain_difference rows shared sets) p)
    (difference-within rows sound sets events own cite shared p)
    ∙ ap (λ b. b || is_in (chain_difference rows shared sets) p) (same p)
  where
    own : (others : List ℕ) → In others sets → (p : ℕ) → is_in others p ≡ true → is_in events p ≡ true
    own others m p e = same p ∙ is_in-from p (flat_map (λ xs. xs) sets) (in_flat_map (λ (xs : List ℕ). xs) others p sets m (is_in-to p others e))

    by : (a b : Bool) → (b ≡ true → a ≡ true) → a ≡ (a || b)
    by true b h = refl
    by false true h = h refl
    by false false h = refl
