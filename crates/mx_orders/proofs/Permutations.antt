-- The permutations of a list of distinct elements are the lists of distinct elements with the same members.
use Rattle.std.proofs.Common.{◌≡◌, suc, ◌⊎◌, inl, inr, List, [], ◌∷◌, length, refl, sym, ap, subst, ◌∙◌}
use Rattle.mx_orders.specs.PowerOrder.{insertions, permutations}
use Rattle.mx_graph.proofs.Members.{in_flat_map, in_flat_map-from}
use Rattle.mx_orders.proofs.Members.{In, Distinct, in_map, in_map-from}

module _ {A : Type 0} where
  -- every member of the one is a member of the other
  abbrev pub Within : List A → List A → Type 0
  Within xs ys = (z : A) → In z xs → In z ys

  pub record Permutes (xs zs : List A) : Type 0 where
    pub distinct : Distinct zs
    pub within : Within zs xs
    pub whole : Within xs zs

  -- the list without a member
  abbrev pub cut : (x : A) (xs : List A) → In x xs → List A
  cut x [] h = []
  cut x (y ∷ ys) (inl e) = ys
  cut x (y ∷ ys) (inr h) = y ∷ cut x ys h

  pub cut-length : (x : A) (xs : List A) (h : In x xs) → suc (length (cut x xs h)) ≡ length xs
  cut-length x [] h = absurd h
  cut-length x (y ∷ ys) (inl e) = refl
  cut-length x (y ∷ ys) (inr h) = ap suc (cut-length x ys h)

  pub cut-within : (x : A) (xs : List A) (h : In x xs) → Within (cut x xs h) xs
  cut-within x [] h z k = absurd h
  cut-within x (y ∷ ys) (inl e) z k = inr k
  cut-within x (y ∷ ys) (inr h) z (inl e) = inl e
  cut-within x (y ∷ ys) (inr h) z (inr k) = inr (cut-within x ys h z k)

  pub cut-cases : (x : A) (xs : List A) (h : In x xs) (z : A) → In z xs → (z ≡ x) ⊎ In z (cut x xs h)
  cut-cases x [] h z k = absurd h
  cut-cases x (y ∷ ys) (inl e) z (inl k) = inl (k ∙ sym e)
  cut-cases x (y ∷ ys) (inl e) z (inr k) = inr k
  cut-cases x (y ∷ ys) (inr h) z (inl k) = inr (inl k)
  cut-cases x (y ∷ ys) (inr h) z (inr k) = by (cut-cases x ys h z k)
    where
      by : (z ≡ x) ⊎ In z (cut x ys h) → (z ≡ x) ⊎ In z (y ∷ cut x ys h)
      by (inl e) = inl e
      by (inr m) = inr (inr m)

  pub cut-distinct : (x : A) (xs : List A) (h : In x xs) → Distinct xs → Distinct (cut x xs h)
  cut-distinct x [] h d = d
  cut-distinct x (y ∷ ys) (inl e) d = d.1
  cut-distinct x (y ∷ ys) (inr h) d = (λ k. d.0 (cut-within x ys h y k), cut-distinct x ys h d.1)

  pub cut-gone : (x : A) (xs : List A) (h : In x xs) → Distinct xs → ¬ In x (cut x xs h)
  cut-gone x [] h d k = k
  cut-gone x (y ∷ ys) (inl e) d k = d.0 (subst (λ w. In w ys) e k)
  cut-gone x (y ∷ ys) (inr h) d (inl e) = d.0 (subst (λ w. In w ys) e h)
  cut-gone x (y ∷ ys) (inr h) d (inr k) = cut-gone x ys h d.1 k

  -- ---- one element put in

  pub insertions-cut : (x : A) (zs : List A) (h : In x zs) → In zs (insertions x (cut x zs h))
  insertions-cut x [] h = absurd h
  insertions-cut x (y ∷ ys) (inl e) = subst (λ w. In (w ∷ ys) (insertions x ys)) e (at_front ys)
    where
      at_front : (ys : List A) → In (x ∷ ys) (insertions x ys)
      at_front [] = inl refl
      at_front (y ∷ ys) = inl refl
  insertions-cut x (y ∷ ys) (inr h) = inr (in_map (λ zs. y ∷ zs) ys (insertions x (cut x ys h)) (insertions-cut x ys h))

  -- a list with x put in has x and the members that it had
  pub record HasBeside (x : A) (ps zs : List A) : Type 0 where
    pub new : In x zs
    pub old : Within ps zs
    pub no_other : (z : A) → In z zs → (z ≡ x) ⊎ In z ps
    pub distinct : ¬ In x ps → Distinct ps → Distinct zs

  beside-front : (x : A) (ps zs : List A) → zs ≡ x ∷ ps → HasBeside x ps zs
  beside-front x ps zs e = subst (HasBeside x ps) (sym e) (record {
    new = inl refl;
    old = λ z k. inr k;
    no_other = λ z k. k;
    distinct = λ n d. (n, d);
  })

  beside-later : (x y : A) (ps zs : List A) → HasBeside x ps zs → HasBeside x (y ∷ ps) (y ∷ zs)
  beside-later x y ps zs h = record { new = inr h.new; old = old; no_other = no_other; distinct = distinct }
    where
      old : Within (y ∷ ps) (y ∷ zs)
      old z (inl e) = inl e
      old z (inr k) = inr (h.old z k)

      side : (z : A) → (z ≡ x) ⊎ In z ps → (z ≡ x) ⊎ In z (y ∷ ps)
      side z (inl e) = inl e
      side z (inr k) = inr (inr k)

      no_other : (z : A) → In z (y ∷ zs) → (z ≡ x) ⊎ In z (y ∷ ps)
      no_other z (inl e) = inr (inl e)
      no_other z (inr k) = side z (h.no_other z k)

      apart : ¬ In x (y ∷ ps) → ¬ In y ps → (y ≡ x) ⊎ In y ps → ⊥
      apart n m (inl e) = n (inl (sym e))
      apart n m (inr k) = m k

      distinct : ¬ In x (y ∷ ps) → Distinct (y ∷ ps) → Distinct (y ∷ zs)
      distinct n d = (λ k. apart n d.0 (h.no_other y k), h.distinct (λ k. n (inr k)) d.1)

  pub beside : (x : A) (ps zs : List A) → In zs (insertions x ps) → HasBeside x ps zs
  beside x [] zs (inl e) = beside-front x [] zs e
  beside x [] zs (inr h) = absurd h
  beside x (y ∷ ys) zs (inl e) = beside-front x (y ∷ ys) zs e
  beside x (y ∷ ys) zs (inr h) =
      let r = in_map-from (λ ws. y ∷ ws) zs (insertions x ys) h in
      subst (HasBeside x (y ∷ ys)) (sym r.2) (beside-later x y ys r.0 (beside x ys r.0 r.1))

  -- ---- all permutations

  step : (x : A) (xs ps zs : List A) → ¬ In x xs → Permutes xs ps → HasBeside x ps zs → Permutes (x ∷ xs) zs
  step x xs ps zs n p h = record { distinct = h.distinct (λ k. n (p.within x k)) p.distinct; within = λ z k. within z (h.no_other z k); whole = whole }
    where
      within : (z : A) → (z ≡ x) ⊎ In z ps → In z (x ∷ xs)
      within z (inl e) = inl e
      within z (inr k) = inr (p.within z k)

      whole : Within (x ∷ xs) zs
      whole z (inl e) = subst (λ w. In w zs) (sym e) h.new
      whole z (inr k) = h.old z (p.whole z k)

  empty : (zs : List A) → zs ≡ [] → Permutes [] zs
  empty zs e = subst (Permutes []) (sym e) (record { distinct = tt; within = λ z k. k; whole = λ z k. k })

  pub permutations-permute : (xs zs : List A) → Distinct xs → In zs (permutations xs) → Permutes xs zs
  permutations-permute [] zs d (inl e) = empty zs e
  permutations-permute [] zs d (inr h) = absurd h
  permutations-permute (x ∷ xs) zs d h =
      let r = in_flat_map-from (insertions x) zs (permutations xs) h in
      step x xs r.0 zs d.0 (permutations-permute xs r.0 d.1 r.1) (beside x r.0 zs r.2)

  no_member : (zs : List A) → ((z : A) → ¬ In z zs) → zs ≡ []
  no_member [] h = refl
  no_member (x ∷ xs) h = absurd (h x (inl refl))

  -- a permutation without its x permutes what is left
  pub permutes-cut : (x : A) (xs zs : List A) (h : In x zs) → ¬ In x xs → Permutes (x ∷ xs) zs → Permutes xs (cut x zs h)
  permutes-cut x xs zs h n p = record {
    distinct = cut-distinct x zs h p.distinct;
    within = λ z k. within z k (p.within z (cut-within x zs h z k));
    whole = λ z k. whole z k (cut-cases x zs h z (p.whole z (inr k)));
  }
    where
      within : (z : A) → In z (cut x zs h) → In z (x ∷ xs) → In z xs
      within z k (inl e) = absurd (cut-gone x zs h p.distinct (subst (λ w. In w (cut x zs h)) e k))
      within z k (inr m) = m

      whole : (z : A) → In z xs → (z ≡ x) ⊎ In z (cut x zs h) → In z (cut x zs h)
      whole z k (inl e) = absurd (n (subst (λ w. In w xs) e k))
      whole z k (inr m) = m

  pub permutes-permutations : (xs zs : List A) → Distinct xs → Permutes xs zs → In zs (permutations xs)
  permutes-permutations [] zs d p = inl (no_member zs p.within)
  permutes-permutations (x ∷ xs) zs d p =
      let h = p.whole x (inl refl) in
      in_flat_map (insertions x) (cut x zs h) zs (permutations xs) (permutes-permutations xs (cut x zs h) d.1 (permutes-cut x xs zs h d.0 p)) (insertions-cut x zs h)
