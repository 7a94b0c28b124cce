-- What waits before the walk, and what the starts add.
use Rattle.std.proofs.Common.{◌≡◌, ℕ, ◌<◌, Bool, true, false, ◌&&◌, ◌||◌, ◌⊎◌, inl, inr, IsTrue, List, [], ◌∷◌, ◌++◌, length, get_or, refl, sym, ap, ap₂, subst, ◌∙◌, ◌+◌, ◌==◌, eq-eqb, arith}
use Rattle.std.proofs.lemmas.List.Folds.{list_any-append}
use Rattle.std.proofs.lemmas.List.{length-append}
use Rattle.std.specs.List.{All}
use Rattle.std.specs.Ordering.{nat_cmp}
use Rattle.std.specs.BTreeSet.{BTreeSet, contains}
use Rattle.mx_graph.specs.Record.{Row, is_in}
use Rattle.mx_state_res.specs.ChainDifference.{is_cited}
use Rattle.mx_state_res.specs.Masks.{Masks, waits, is_cited_by, is_there}
use Rattle.mx_graph.proofs.Closure.{or_left, or_right, is_in-to}
use Rattle.mx_graph.proofs.SetLemmas.{contains-is}
use Rattle.mx_state_res.proofs.SetLemmas.{is_in-append, all-at}
use Rattle.mx_state_res.proofs.MaskLemmas.{waits-there}

-- ---- a start is taken

-- what was, with what the start cites
moved : (a k c : Bool) → ((a || c) || k) ≡ (a || (k || (c || false)))
moved true k c = refl
moved false true true = refl
moved false true false = refl
moved false false true = refl
moved false false false = refl

marked-full : (a c m : Bool) → m ≡ true → (a || (c && m)) ≡ (a || c)
marked-full true c m e = refl
marked-full false true m e = e
marked-full false false m e = refl

module _ (cites : ℕ → List ℕ) (start : ℕ) (starts fewer : List ℕ) (parts : starts ≡ fewer ++ start ∷ []) where
  cited-parts : (p : ℕ) → is_cited_by cites starts p ≡ (is_cited_by cites fewer p || (is_in (cites start) p || false))
  cited-parts p = ap (λ xs. is_cited_by cites xs p) parts ∙ list_any-append (λ s. is_in (cites s) p) fewer (start ∷ [])

  pub start-there : (old new : ℕ → Bool) → ((p : ℕ) → new p ≡ (old p || is_in (cites start) p)) → (p : ℕ) → (new p || is_cited_by cites fewer p) ≡ (old p || is_cited_by cites starts p)
  start-there old new there p = ap (λ b. b || is_cited_by cites fewer p) (there p) ∙ moved (old p) (is_cited_by cites fewer p) (is_in (cites start) p) ∙ ap (λ b. old p || b) (sym (cited-parts p))

  pub start-due : (old new : ℕ → ℕ → Bool) (mask : ℕ → Bool) (states : ℕ) → ((i : ℕ) → i < states → mask i ≡ true) → ((p i : ℕ) → new p i ≡ (old p i || (is_in (cites start) p && mask i)))
      → (p i : ℕ) → i < states → (new p i || is_cited_by cites fewer p) ≡ (old p i || is_cited_by cites starts p)
  start-due old new mask states full marked p i l =
      ap (λ b. b || is_cited_by cites fewer p) (marked p i ∙ marked-full (old p i) (is_in (cites start) p) (mask i) (full i l))
      ∙ moved (old p i) (is_cited_by cites fewer p) (is_in (cites start) p) ∙ ap (λ b. old p i || b) (sym (cited-parts p))

-- ---- before the walk

-- what waits is marked for the states that are apart, and what all states share is due for each of them
pub start-waits : (rows : List Row) (shared starts : List ℕ) (lists : List (List ℕ)) (count : ℕ) → count ≡ length lists → (none start : Masks) → ((p : ℕ) → is_there none p ≡ false) → ((p : ℕ) → is_cited rows starts p ≡ is_cited rows shared p)
    → ((p i : ℕ) → i < count → waits start p i ≡ (waits none p i || is_cited rows (get_or lists i []) p))
    → (p i : ℕ) → i < length lists → (waits start p i || is_cited rows starts p) ≡ (is_cited rows (get_or lists i []) p || is_cited rows shared p)
start-waits rows shared starts lists count long none start empty same apart p i l =
    ap₂ (λ a b. a || b) (apart p i within ∙ ap (λ b. b || is_cited rows (get_or lists i []) p) (unmarked (waits none p i) refl)) (same p)
  where
    within : i < count
    within = subst (λ n. i < n) (sym long) l

    unmarked : (b : Bool) → waits none p i ≡ b → waits none p i ≡ false
    unmarked true e = absurd (cc (sym (empty p) ∙ waits-there none p i e))
    unmarked false e = e

-- what waits is one of the rows
pub start-known : (n : ℕ) (none start : Masks) → ((p : ℕ) → is_there none p ≡ false) → ((p : ℕ) → is_there start p ≡ true → IsTrue (is_there none p) ⊎ (p < n)) → (p : ℕ) → is_there start p ≡ true → p < n
start-known n none start empty known p e = by (known p e)
  where
    by : IsTrue (is_there none p) ⊎ (p < n) → p < n
    by (inl f) = absurd (cc (sym (empty p) ∙ f))
    by (inr l) = l

-- the starts are the shared events
pub starts-known : (n : ℕ) (shared : List ℕ) (set starts : BTreeSet ℕ) → All (λ s. s < n) shared → ((p : ℕ) → contains nat_cmp set p ≡ is_in shared p) → starts ≡ set → (s : ℕ) → is_in starts.keys s ≡ true → s < n
starts-known n shared set starts known same is s m = all-at (λ s. s < n) shared known s (is_in-to s shared (sym (same s) ∙ contains-is set.keys s ∙ sym (ap (λ (t : BTreeSet ℕ). is_in t.keys s) is) ∙ m))

-- ---- the last of some starts

pub last-in : (start : ℕ) (starts fewer : List ℕ) → starts ≡ fewer ++ start ∷ [] → is_in starts start ≡ true
last-in start starts fewer parts = ap (λ xs. is_in xs start) parts ∙ is_in-append fewer (start ∷ []) start ∙ or_right (is_in fewer start) _ (or_left (start == start) false (eq-eqb start start refl))

pub fewer-in : (start : ℕ) (starts fewer : List ℕ) → starts ≡ fewer ++ start ∷ [] → (s : ℕ) → is_in fewer s ≡ true → is_in starts s ≡ true
fewer-in start starts fewer parts s m = ap (λ xs. is_in xs s) parts ∙ is_in-append fewer (start ∷ []) s ∙ or_left (is_in fewer s) _ m

pub fewer-length : (start : ℕ) (starts fewer : List ℕ) → starts ≡ fewer ++ start ∷ [] → length fewer < length starts
fewer-length start starts fewer parts = let e : length starts ≡ length fewer + 1 = ap length parts ∙ length-append fewer (start ∷ []) in omega arith
