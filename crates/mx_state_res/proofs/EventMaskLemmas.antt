-- Masks of events: what they say of the sets that have the events, and of what the events cite.
use Rattle.std.proofs.Common.{◌≡◌, ℕ, ◌+◌, ◌<◌, Bool, true, false, cond, ◌&&◌, ◌||◌, ◌⊎◌, inl, inr, List, [], ◌∷◌, length, map, take, get_or, Some, Vec, refl, sym, ap, subst, ◌∙◌, arith, eq-eqb, is_some, None}
use Rattle.std.proofs.lemmas.Bool.Decides.{nat_tests}
use Rattle.std.proofs.lemmas.List.{take_more}
use Rattle.std.proofs.lemmas.List.Folds.{list_any-append}
use Rattle.std.proofs.lemmas.Map.Entries.{lookup_head, lookup_tail}
use Rattle.std.proofs.lemmas.Map.Keys.{IsDistinct-from_sorted, IsDistinct-head, IsDistinct-tail}
use Rattle.std.specs.List.{All, AllByRecursion, IsDistinct}
use Rattle.std.specs.Ordering.{nat_cmp, is_eq, eq_by_cmp}
use Rattle.std.specs.Map.{keys_of, lookup}
use Rattle.std.specs.BTreeMap.{get, IsOrdered}
use Rattle.std.specs.declared.alloc.Global.{Global}
use Rattle.mx_graph.specs.Record.{Row, is_in}
use Rattle.mx_graph.specs.Graph.{IsSound}
use Rattle.mx_graph.proofs.Closure.{or_cases, or_left, or_right, is_in-to}
use Rattle.mx_graph.proofs.Members.{In}
use Rattle.mx_state_res.specs.ChainDifference.{cites}
use Rattle.mx_state_res.specs.Masks.{Masks, has, mask_in, waits, is_cited_by, is_there}
use Rattle.mx_state_res.specs.EventMasks.{is_had, is_in_one, is_cited_for, AreWide, Masked}
use Rattle.mx_state_res.proofs.CitedLemmas.{cited-from, cited-to}
use Rattle.mx_state_res.proofs.MaskLemmas.{has_none, tied}
use Rattle.mx_state_res.proofs.SetLemmas.{all-at, all-of}
use Rattle.mx_state_res.proofs.TestLemmas.{and-first, and-make, and-second, one-answer, or-false}

-- ---- the events of one set more

pub one-more : (lists : List (List ℕ)) (i : ℕ) (events : List ℕ) → i < length lists → get_or lists i [] ≡ events → (p : ℕ) → is_in_one (take (i + 1) lists) p ≡ (is_in_one (take i lists) p || is_in events p)
one-more lists i events within here p =
    ap (λ xs. is_in_one xs p) (take_more lists i [] within)
    ∙ list_any-append (λ xs. is_in xs p) (take i lists) (get_or lists i [] ∷ [])
    ∙ ap (λ b. is_in_one (take i lists) p || b) (or-false (is_in (get_or lists i []) p) false refl ∙ ap (λ xs. is_in xs p) here)

-- ---- an event that no set had

no_state : (i : ℕ) → has [] i ≡ false
no_state i = by (has [] i) refl
  where
    by : (b : Bool) → has [] i ≡ b → has [] i ≡ false
    by true e = absurd (has_none i e)
    by false e = e

pub first-had : (masks : Masks) (k : ℕ) → None ≡ get nat_cmp masks k → (mask had : ℕ → Bool) → ((i : ℕ) → had i ≡ mask i) → (i : ℕ) → had i ≡ (waits masks k i || mask i)
first-had masks k none mask had each i = each i ∙ ap (λ b. b || mask i) (sym (ap (λ o. has (mask_in o) i) (sym none) ∙ no_state i))

-- ---- an entry is what is looked up

apart-at : (k : ℕ) (es : List Masked) → AllByRecursion (λ y. eq_by_cmp nat_cmp k y ≡ false) (keys_of es) → (e : Masked) → In e es → is_eq (nat_cmp k e.0) ≡ false
apart-at k [] h e m = absurd m
apart-at k (x ∷ es) h e (inl is) = ap (λ (y : Masked). is_eq (nat_cmp k y.0)) is ∙ h.0
apart-at k (x ∷ es) h e (inr m) = apart-at k es h.1 e m

turned : (a b : ℕ) → is_eq (nat_cmp a b) ≡ false → is_eq (nat_cmp b a) ≡ false
turned a b e = grind (arith, nat_tests)

found : (es : List Masked) → IsDistinct (eq_by_cmp nat_cmp) (keys_of es) → (e : Masked) → In e es → lookup (λ k. is_eq (nat_cmp e.0 k)) es ≡ Some e.1
found [] d e m = absurd m
found (x ∷ es) d e (inl is) = lookup_head (λ k. is_eq (nat_cmp e.0 k)) x es (tied e.0 x.0 ∙ eq-eqb e.0 x.0 (ap (λ (y : Masked). y.0) is)) ∙ ap (λ (y : Masked). Some y.1) (sym is)
found (x ∷ es) d e (inr m) =
    lookup_tail (λ k. is_eq (nat_cmp e.0 k)) x es (turned x.0 e.0 (apart-at x.0 es (IsDistinct-head (eq_by_cmp nat_cmp) x.0 (keys_of es) d) e m))
    ∙ found es (IsDistinct-tail (eq_by_cmp nat_cmp) x.0 (keys_of es) d) e m

pub entry-found : (masks : Masks) → IsOrdered nat_cmp masks → (e : Masked) → In e masks.entries → get nat_cmp masks e.0 ≡ Some e.1
entry-found masks ordered e m = found masks.entries (IsDistinct-from_sorted nat_cmp (keys_of masks.entries) ordered) e m

-- ---- the events are known

one-known : (n : ℕ) (vs : List (Vec ℕ Global)) → ((v : Vec ℕ Global) → In v vs → All (λ s. s < n) v.items) → (p : ℕ) → is_in_one (map (λ (v : Vec ℕ Global). v.items) vs) p ≡ true → p < n
one-known n [] h p e = absurd (cc e)
one-known n (v ∷ vs) h p e = by (one-known n vs (λ x m. h x (inr m)) p) (or_cases (is_in v.items p) _ e)
  where
    by : (is_in_one (map (λ (v : Vec ℕ Global). v.items) vs) p ≡ true → p < n) → (is_in v.items p ≡ true) ⊎ (is_in_one (map (λ (v : Vec ℕ Global). v.items) vs) p ≡ true) → p < n
    by later (inl f) = all-at (λ s. s < n) v.items (h v (inl refl)) p (is_in-to p v.items f)
    by later (inr f) = later f

-- an event that is known, with a mask of so many sets
abbrev pub IsMasked : ℕ → ℕ → Masked → Type 0
IsMasked n sets e = (e.0 < n) × (length e.1.items ≡ sets)

pub entries-known : (n sets : ℕ) (masks : Masks) (vs : List (Vec ℕ Global)) → IsOrdered nat_cmp masks → AreWide sets masks → ((p : ℕ) → is_there masks p ≡ is_in_one (map (λ (v : Vec ℕ Global). v.items) vs) p)
    → All (λ (v : Vec ℕ Global). All (λ s. s < n) v.items) vs → All (IsMasked n sets) masks.entries
entries-known n sets masks vs ordered wide there known =
    all-of (IsMasked n sets) masks.entries
    (λ e m.
    let here = entry-found masks ordered e m in
    (one-known n vs (all-at (λ (v : Vec ℕ Global). All (λ s. s < n) v.items) vs known) e.0 (sym (there e.0) ∙ ap is_some here), wide e.0 e.1 here))

-- ---- what the events cite

module _ (cites : ℕ → List ℕ) where
  for-to : (es : List Masked) (p i : ℕ) → is_cited_for cites es p i ≡ true → (e : Masked) × In e es × (is_in (cites e.0) p ≡ true) × (has e.1.items i ≡ true)
  for-to [] p i h = absurd (cc h)
  for-to (e ∷ es) p i h = by (for-to es p i) (or_cases (is_in (cites e.0) p && has e.1.items i) _ h)
    where
      by : (is_cited_for cites es p i ≡ true → (x : Masked) × In x es × (is_in (cites x.0) p ≡ true) × (has x.1.items i ≡ true))
          → ((is_in (cites e.0) p && has e.1.items i) ≡ true) ⊎ (is_cited_for cites es p i ≡ true) → (x : Masked) × In x (e ∷ es) × (is_in (cites x.0) p ≡ true) × (has x.1.items i ≡ true)
      by later (inl f) = (e, inl refl, and-first (is_in (cites e.0) p) _ f, and-second (is_in (cites e.0) p) _ f)
      by later (inr f) = let r = later f in (r.0, inr r.1, r.2, r.3)

  for-from : (es : List Masked) (x p i : ℕ) → has (mask_in (lookup (λ k. is_eq (nat_cmp x k)) es)) i ≡ true → is_in (cites x) p ≡ true → is_cited_for cites es p i ≡ true
  for-from [] x p i h c = absurd (has_none i h)
  for-from (e ∷ es) x p i h c = by (for-from es x p i) (is_eq (nat_cmp x e.0)) refl h
    where
      by : (has (mask_in (lookup (λ k. is_eq (nat_cmp x k)) es)) i ≡ true → is_in (cites x) p ≡ true → is_cited_for cites es p i ≡ true) → (b : Bool) → is_eq (nat_cmp x e.0) ≡ b
          → has (mask_in (cond (is_eq (nat_cmp x e.0)) (Some e.1) (lookup (λ k. is_eq (nat_cmp x k)) es))) i ≡ true → is_cited_for cites (e ∷ es) p i ≡ true
      by later true f h =
          or_left (is_in (cites e.0) p && has e.1.items i) _
          (and-make (is_in (cites e.0) p) (has e.1.items i) (ap (λ k. is_in (cites k) p) (sym (same x e.0 f)) ∙ c)
          (sym (ap (λ b. has (mask_in (cond b (Some e.1) (lookup (λ k. is_eq (nat_cmp x k)) es))) i) f) ∙ h))
        where
          same : (a b : ℕ) → is_eq (nat_cmp a b) ≡ true → a ≡ b
          same a b e = grind (arith, nat_tests)
      by later false f h =
          or_right (is_in (cites e.0) p && has e.1.items i) _
          (later (sym (ap (λ b. has (mask_in (cond b (Some e.1) (lookup (λ k. is_eq (nat_cmp x k)) es))) i) f) ∙ h) c)

  -- what the events of one set cite
  pub cited-for : (masks : Masks) → IsOrdered nat_cmp masks → (i : ℕ) (events : List ℕ) → ((x : ℕ) → is_had masks x i ≡ is_in events x) → (p : ℕ) → is_cited_for cites masks.entries p i ≡ is_cited_by cites events p
  cited-for masks ordered i events each p =
      one-answer (is_cited_for cites masks.entries p i) (is_cited_by cites events p)
      (λ h. let r = for-to masks.entries p i h in
      cited-from cites events r.0.0 p (sym (each r.0.0) ∙ ap (λ o. has (mask_in o) i) (entry-found masks ordered r.0 r.1) ∙ r.3) r.2)
      (λ h. let r = cited-to cites events p h in for-from masks.entries r.0 p i (each r.0 ∙ r.1) r.2)

  -- ---- an event is passed

  module _ (k : ℕ) (mask : Vec Bool Global) (all rest : List Masked) (steps : all ≡ (k, mask) ∷ rest) where
    or-assoc : (a b c : Bool) → ((a || b) || c) ≡ (a || (b || c))
    or-assoc true b c = refl
    or-assoc false b c = refl

    pub for-step : (old new : ℕ → ℕ → Bool) → ((p i : ℕ) → new p i ≡ (old p i || (is_in (cites k) p && has mask.items i))) → (p i : ℕ) → (new p i || is_cited_for cites rest p i) ≡ (old p i || is_cited_for cites all p i)
    for-step old new marked p i =
        ap (λ b. b || is_cited_for cites rest p i) (marked p i) ∙ or-assoc (old p i) (is_in (cites k) p && has mask.items i) (is_cited_for cites rest p i) ∙ ap (λ es. old p i || is_cited_for cites es p i) (sym steps)

module _ (P : Masked → Type 0) (e : Masked) (all rest : List Masked) (steps : all ≡ e ∷ rest) (known : All P all) where
  pub head-known : P e
  head-known = all-at P all known e (subst (In e) (sym steps) (inl refl))

  pub rest-known : All P rest
  rest-known = all-of P rest (λ x m. all-at P all known x (subst (In x) (sym steps) (inr m)))

-- what an event cites is known
pub known-step : (rows : List Row) → IsSound rows → (k : ℕ) (old new : ℕ → Bool) → ((p : ℕ) → new p ≡ (old p || is_in (cites rows k) p)) → (P : ℕ → Type 0) → ((p : ℕ) → old p ≡ true → P p ⊎ (p < length rows)) → (p : ℕ) → new p ≡ true → P p ⊎ (p < length rows)
known-step rows sound k old new marked P known p e = by (or_cases (old p) _ (sym (marked p) ∙ e))
  where
    by : (old p ≡ true) ⊎ (is_in (cites rows k) p ≡ true) → P p ⊎ (p < length rows)
    by (inl f) = known p f
    by (inr f) = inr (sound.auth k p f).0
