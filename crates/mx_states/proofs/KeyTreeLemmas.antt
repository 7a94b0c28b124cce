-- Trees of the events at keys: what more trees, and a tree with one event more, leave and say.
use Rattle.std.proofs.Common.{◌≡◌, ℕ, zero, suc, ◌+◌, ◌-◌, ◌/◌, ◌%◌, ◌==◌, ◌<◌, ◌≤◌, length, ◌++◌, List, [], ◌∷◌, Bool, true, false, cond, None, refl, sym, ap, subst, ◌∙◌, ◌⊎◌, inl, inr, arith, eqb-true, length-append}
use Rattle.std.specs.Prelude.{Option, IfOk, Ok, OnErr, OnOk, Err, Result}
use Rattle.std.proofs.lemmas.Bool.{eqb-false}
use Rattle.std.proofs.lemmas.List.{get_or_append_left}
use Rattle.std.proofs.Math.Seq.{get_or-append_seam}
use Rattle.mx_states.specs.declared.trees.key_trees.KeyTree.{KeyTree}
use Rattle.mx_states.specs.KeyTrees.{empty, kept_at, root, below, within, at, AreLower, IsLonger}

pub chosen-true : {A : Type 0} (b : Bool) (x y : A) → b ≡ true → cond b x y ≡ x
chosen-true b x y e = ap (λ c. cond c x y) e

pub chosen-false : {A : Type 0} (b : Bool) (x y : A) → b ≡ false → cond b x y ≡ y
chosen-false b x y e = ap (λ c. cond c x y) e

-- ---- how many trees are gone down at most does not matter

pub half-some : (n : ℕ) → 1 ≤ n → (n == 1) ≡ false → 1 ≤ n / 2
half-some n some e = let apart = eqb-false n 1 e in omega arith

half-less : (n f : ℕ) → 1 ≤ n → n ≤ suc f → n / 2 ≤ f
half-less n f some l = omega arith

pub any-depth : (f g : ℕ) (trees : List KeyTree) (tree n : ℕ) → 1 ≤ n → n ≤ f → n ≤ g → within f trees tree n ≡ within g trees tree n
any-depth zero g trees tree n some l m = absurd (omega arith)
any-depth (suc f) zero trees tree n some l m = absurd (omega arith)
any-depth (suc f) (suc g) trees tree n some l m =
    by (n == 1) refl (λ e. any-depth f g trees (below (root trees tree) n) (n / 2) (half-some n some e) (half-less n f some l) (half-less n g some m))
  where
    by : (b : Bool) → (n == 1) ≡ b → ((n == 1) ≡ false → within f trees (below (root trees tree) n) (n / 2) ≡ within g trees (below (root trees tree) n) (n / 2)) → within (suc f) trees tree n ≡ within (suc g) trees tree n
    by true e same = chosen-true (n == 1) _ _ e ∙ sym (chosen-true (n == 1) _ _ e)
    by false e same = chosen-false (n == 1) _ _ e ∙ same e ∙ sym (chosen-false (n == 1) _ _ e)

-- ---- at the first place, and below

pub at-first : (trees : List KeyTree) (tree : ℕ) → at trees tree 1 ≡ (root trees tree).event
at-first trees tree = refl

pub at-below : (trees : List KeyTree) (tree n : ℕ) → 1 ≤ n → (n == 1) ≡ false → at trees tree n ≡ at trees (below (root trees tree) n) (n / 2)
at-below trees tree zero some e = absurd (omega arith)
at-below trees tree (suc n) some e =
    chosen-false (suc n == 1) _ _ e
    ∙ any-depth n (suc n / 2) trees (below (root trees tree) (suc n)) (suc n / 2) (half-some (suc n) some e) (half-less (suc n) n some (omega arith)) (omega arith)

-- ---- more trees

pub below-lower : (trees : List KeyTree) (tree n : ℕ) → AreLower trees → tree ≤ length trees → below (root trees tree) n ≤ length trees
below-lower trees tree n lower l = by (tree == 0) refl (n % 2 == 0) refl
  where
    by : (z : Bool) → (tree == 0) ≡ z → (b : Bool) → (n % 2 == 0) ≡ b → below (root trees tree) n ≤ length trees
    by true e true d = let r : below (root trees tree) n ≡ 0 = chosen-true (n % 2 == 0) _ _ d ∙ ap (λ (t : KeyTree). t.even) (chosen-true (tree == 0) _ _ e) in omega arith
    by true e false d = let r : below (root trees tree) n ≡ 0 = chosen-false (n % 2 == 0) _ _ d ∙ ap (λ (t : KeyTree). t.odd) (chosen-true (tree == 0) _ _ e) in omega arith
    by false e true d =
        let r : below (root trees tree) n ≡ (kept_at trees (tree - 1)).even = chosen-true (n % 2 == 0) _ _ d ∙ ap (λ (t : KeyTree). t.even) (chosen-false (tree == 0) _ _ e) in
        let apart = eqb-false tree 0 e in
        let k = (lower (tree - 1)).0 in
        omega arith
    by false e false d =
        let r : below (root trees tree) n ≡ (kept_at trees (tree - 1)).odd = chosen-false (n % 2 == 0) _ _ d ∙ ap (λ (t : KeyTree). t.odd) (chosen-false (tree == 0) _ _ e) in
        let apart = eqb-false tree 0 e in
        let k = (lower (tree - 1)).1 in
        omega arith

root-more : (trees more : List KeyTree) (tree : ℕ) → tree ≤ length trees → root (trees ++ more) tree ≡ root trees tree
root-more trees more tree l = by (tree == 0) refl
  where
    by : (z : Bool) → (tree == 0) ≡ z → root (trees ++ more) tree ≡ root trees tree
    by true e = chosen-true (tree == 0) _ _ e ∙ sym (chosen-true (tree == 0) _ _ e)
    by false e =
        let apart = eqb-false tree 0 e in
        ap (λ t. cond (tree == 0) empty t) (get_or_append_left trees more empty (tree - 1) (omega arith))

-- what is told of a tree is told of it among more
pub within-more : (f : ℕ) (trees more : List KeyTree) (tree n : ℕ) → AreLower trees → tree ≤ length trees → within f (trees ++ more) tree n ≡ within f trees tree n
within-more zero trees more tree n lower l = refl
within-more (suc f) trees more tree n lower l =
    ap (λ (t : KeyTree). cond (n == 1) t.event (within f (trees ++ more) (below t n) (n / 2))) (root-more trees more tree l)
    ∙ ap (λ v. cond (n == 1) (root trees tree).event v) (within-more f trees more (below (root trees tree) n) (n / 2) lower (below-lower trees tree n lower l))

pub at-longer : (trees others : List KeyTree) (tree n : ℕ) → AreLower trees → tree ≤ length trees → IsLonger trees others → at others tree n ≡ at trees tree n
at-longer trees others tree n lower l h = ap (λ ts. at ts tree n) h.1 ∙ within-more n trees h.0 tree n lower l

-- ---- one tree more

pub root-new : (trees : List KeyTree) (tree : KeyTree) → root (trees ++ tree ∷ []) (length trees + 1) ≡ tree
root-new trees tree = chosen-false (length trees + 1 == 0) _ _ (apart (length trees)) ∙ ap (λ i. kept_at (trees ++ tree ∷ []) i) (less (length trees)) ∙ get_or-append_seam trees tree [] empty
  where
    apart : (n : ℕ) → (n + 1 == 0) ≡ false
    apart n = grind arith

    less : (n : ℕ) → n + 1 - 1 ≡ n
    less n = omega arith

pub lower-more : (trees : List KeyTree) (tree : KeyTree) → AreLower trees → tree.even ≤ length trees → tree.odd ≤ length trees → AreLower (trees ++ tree ∷ [])
lower-more trees tree lower even odd place = by (cases place (length trees))
  where
    cases : (a b : ℕ) → (a < b) ⊎ ((a ≡ b) ⊎ (b < a))
    cases a b = grind arith

    by : (place < length trees) ⊎ ((place ≡ length trees) ⊎ (length trees < place)) → ((kept_at (trees ++ tree ∷ []) place).even ≤ place) × ((kept_at (trees ++ tree ∷ []) place).odd ≤ place)
    by (inl l) = subst (λ (t : KeyTree). (t.even ≤ place) × (t.odd ≤ place)) (sym (get_or_append_left trees (tree ∷ []) empty place l)) (lower place)
    by (inr (inl e)) =
        let is : kept_at (trees ++ tree ∷ []) place ≡ tree = ap (λ i. kept_at (trees ++ tree ∷ []) i) e ∙ get_or-append_seam trees tree [] empty in
        subst (λ (t : KeyTree). (t.even ≤ place) × (t.odd ≤ place)) (sym is) (omega arith, omega arith)
    by (inr (inr l)) =
        let is : kept_at (trees ++ tree ∷ []) place ≡ empty = past (trees ++ tree ∷ []) place (let n = length-append trees (tree ∷ []) in omega arith) in
        subst (λ (t : KeyTree). (t.even ≤ place) × (t.odd ≤ place)) (sym is) (omega arith, omega arith)
      where
        past : (ts : List KeyTree) (i : ℕ) → length ts ≤ i → kept_at ts i ≡ empty
        past [] i k = refl
        past (t ∷ ts) zero k = absurd (omega arith)
        past (t ∷ ts) (suc i) k = past ts i (omega arith)

-- ---- a tree with one event more

pub apart-one : (n : ℕ) → 1 < n → (n == 1) ≡ false
apart-one n l = grind arith

pub at-one : (trees : List KeyTree) (tree n : ℕ) → (n == 1) ≡ true → at trees tree n ≡ (root trees tree).event
at-one trees tree n e = ap (at trees tree) (eqb-true n 1 e)

same-test : (n place : ℕ) → n ≡ place → (n == place) ≡ true
same-test n place e = grind arith

pub other-test : (n place : ℕ) → (n ≡ place → ⊥) → (n == place) ≡ false
other-test n place h = grind arith

pub longer : (trees others : List KeyTree) → IsLonger trees others → length trees ≤ length others
longer trees others h = let n : length others ≡ length trees + length h.0 = ap length h.1 ∙ length-append trees h.0 in omega arith

-- a new tree is that of its parts
pub new-below : (trees : List KeyTree) (changed : KeyTree) (n : ℕ) → 1 ≤ n → (n == 1) ≡ false → at (trees ++ changed ∷ []) (length trees + 1) n ≡ at (trees ++ changed ∷ []) (below changed n) (n / 2)
new-below trees changed n some e =
    at-below (trees ++ changed ∷ []) (length trees + 1) n some e ∙ ap (λ t. at (trees ++ changed ∷ []) (below t n) (n / 2)) (root-new trees changed)

pub new-first : (trees : List KeyTree) (changed : KeyTree) (n : ℕ) → (n == 1) ≡ true → at (trees ++ changed ∷ []) (length trees + 1) n ≡ changed.event
new-first trees changed n e = at-one (trees ++ changed ∷ []) (length trees + 1) n e ∙ ap (λ (t : KeyTree). t.event) (root-new trees changed)

pub put-first : (trees : List KeyTree) (tree place : ℕ) (event : Option ℕ) (changed : KeyTree) → AreLower trees → tree ≤ length trees → place ≡ 1 → changed.event ≡ event → changed.even ≡ (root trees tree).even → changed.odd ≡ (root trees tree).odd
    → (n : ℕ) → 1 ≤ n → at (trees ++ changed ∷ []) (length trees + 1) n ≡ cond (n == place) event (at trees tree n)
put-first trees tree place event changed lower l first is even odd n some = by (n == 1) refl
  where
    by : (b : Bool) → (n == 1) ≡ b → at (trees ++ changed ∷ []) (length trees + 1) n ≡ cond (n == place) event (at trees tree n)
    by true e = new-first trees changed n e ∙ is ∙ sym (chosen-true (n == place) _ _ (ap (λ p. n == p) first ∙ e))
    by false e =
        let under : below changed n ≡ below (root trees tree) n = ap (λ t. cond (n % 2 == 0) t changed.odd) even ∙ ap (λ t. cond (n % 2 == 0) (root trees tree).even t) odd in
        new-below trees changed n some e
        ∙ ap (λ t. at (trees ++ changed ∷ []) t (n / 2)) under
        ∙ within-more (n / 2) trees (changed ∷ []) (below (root trees tree) n) (n / 2) lower (below-lower trees tree n lower l)
        ∙ sym (at-below trees tree n some e)
        ∙ sym (chosen-false (n == place) _ _ (ap (λ p. n == p) first ∙ e))

half-test : (n place : ℕ) → n % 2 ≡ place % 2 → (n / 2 == place / 2) ≡ (n == place)
half-test n place h = by (n == place) refl
  where
    by : (b : Bool) → (n == place) ≡ b → (n / 2 == place / 2) ≡ b
    by true e = same-test (n / 2) (place / 2) (ap (λ k. k / 2) (eqb-true n place e))
    by false e = other-test (n / 2) (place / 2) (λ k. eqb-false n place e (omega arith))

pub put-below : (trees others : List KeyTree) (tree place made : ℕ) (event : Option ℕ) (changed : KeyTree) → AreLower trees → tree ≤ length trees → AreLower others → IsLonger trees others → made ≤ length others → (place == 1) ≡ false
    → changed.event ≡ (root trees tree).event → changed.even ≡ cond (place % 2 == 0) made (root trees tree).even → changed.odd ≡ cond (place % 2 == 0) (root trees tree).odd made
    → ((m : ℕ) → 1 ≤ m → at others made m ≡ cond (m == place / 2) event (at trees (below (root trees tree) place) m))
    → (n : ℕ) → 1 ≤ n → at (others ++ changed ∷ []) (length others + 1) n ≡ cond (n == place) event (at trees tree n)
put-below trees others tree place made event changed lower l lower-others more k apart is even odd put n some = by (n == 1) refl
  where
    -- the tree that is reached is the new one
    met : (n == 1) ≡ false → n % 2 ≡ place % 2 → below changed n ≡ made → below (root trees tree) n ≡ below (root trees tree) place → at (others ++ changed ∷ []) (below changed n) (n / 2) ≡ cond (n == place) event (at trees tree n)
    met e same here there =
        ap (λ t. at (others ++ changed ∷ []) t (n / 2)) here
        ∙ within-more (n / 2) others (changed ∷ []) made (n / 2) lower-others k
        ∙ put (n / 2) (half-some n some e)
        ∙ ap (λ b. cond b event (at trees (below (root trees tree) place) (n / 2))) (half-test n place same)
        ∙ ap (λ v. cond (n == place) event v) (ap (λ t. at trees t (n / 2)) (sym there) ∙ sym (at-below trees tree n some e))

    -- it is the one that was there
    passed : (n == 1) ≡ false → (n ≡ place → ⊥) → below changed n ≡ below (root trees tree) n → at (others ++ changed ∷ []) (below changed n) (n / 2) ≡ cond (n == place) event (at trees tree n)
    passed e other here =
        let under = below-lower trees tree n lower l in
        ap (λ t. at (others ++ changed ∷ []) t (n / 2)) here
        ∙ within-more (n / 2) others (changed ∷ []) (below (root trees tree) n) (n / 2) lower-others (let m = longer trees others more in omega arith)
        ∙ at-longer trees others (below (root trees tree) n) (n / 2) lower under more
        ∙ sym (at-below trees tree n some e)
        ∙ sym (chosen-false (n == place) _ _ (other-test n place other))

    reached : (n == 1) ≡ false → (a : Bool) → (n % 2 == 0) ≡ a → (b : Bool) → (place % 2 == 0) ≡ b → at (others ++ changed ∷ []) (below changed n) (n / 2) ≡ cond (n == place) event (at trees tree n)
    reached e true g true h =
        met e (eqb-true (n % 2) 0 g ∙ sym (eqb-true (place % 2) 0 h)) (chosen-true (n % 2 == 0) _ _ g ∙ even ∙ chosen-true (place % 2 == 0) _ _ h)
        (chosen-true (n % 2 == 0) _ _ g ∙ sym (chosen-true (place % 2 == 0) _ _ h))
    reached e false g false h =
        met e (let p = eqb-false (n % 2) 0 g in let q = eqb-false (place % 2) 0 h in omega arith) (chosen-false (n % 2 == 0) _ _ g ∙ odd ∙ chosen-false (place % 2 == 0) _ _ h)
        (chosen-false (n % 2 == 0) _ _ g ∙ sym (chosen-false (place % 2 == 0) _ _ h))
    reached e true g false h =
        passed e (λ same. eqb-false (place % 2) 0 h (ap (λ m. m % 2) (sym same) ∙ eqb-true (n % 2) 0 g))
        (chosen-true (n % 2 == 0) _ _ g ∙ even ∙ chosen-false (place % 2 == 0) _ _ h ∙ sym (chosen-true (n % 2 == 0) _ _ g))
    reached e false g true h =
        passed e (λ same. eqb-false (n % 2) 0 g (ap (λ m. m % 2) same ∙ eqb-true (place % 2) 0 h))
        (chosen-false (n % 2 == 0) _ _ g ∙ odd ∙ chosen-true (place % 2 == 0) _ _ h ∙ sym (chosen-false (n % 2 == 0) _ _ g))

    by : (b : Bool) → (n == 1) ≡ b → at (others ++ changed ∷ []) (length others + 1) n ≡ cond (n == place) event (at trees tree n)
    by true e =
        new-first others changed n e ∙ is ∙ sym (at-one trees tree n e)
        ∙ sym (chosen-false (n == place) _ _ (other-test n place (λ same. eqb-false place 1 apart (sym same ∙ eqb-true n 1 e))))
    by false e = new-below others changed n some e ∙ reached e (n % 2 == 0) refl (place % 2 == 0) refl

pub changed-lower : (trees others : List KeyTree) (tree place made : ℕ) (changed : KeyTree) → AreLower trees → tree ≤ length trees → AreLower others → IsLonger trees others → made ≤ length others
    → changed.even ≡ cond (place % 2 == 0) made (root trees tree).even → changed.odd ≡ cond (place % 2 == 0) (root trees tree).odd made → AreLower (others ++ changed ∷ [])
changed-lower trees others tree place made changed lower l lower-others more k even odd =
    lower-more others changed lower-others (part (place % 2 == 0) made (root trees tree).even changed.even even k (omega (arith, longer trees others more, below-lower trees tree 0 lower l)))
    (part (place % 2 == 0) (root trees tree).odd made changed.odd odd (omega (arith, longer trees others more, below-lower trees tree 1 lower l)) k)
  where
    part : (b : Bool) (x y z : ℕ) → z ≡ cond b x y → x ≤ length others → y ≤ length others → z ≤ length others
    part true x y z e f g = omega arith
    part false x y z e f g = omega arith

-- ---- by what pushing told

pub pushed-ok : {E : Type 0} (r : Result ℕ E) (number : ℕ) (trees others : List KeyTree) (P : List KeyTree → ℕ → Type 0) → IfOk r (λ n. n ≡ number) → OnOk r (others ≡ trees) → P trees number → IfOk r (P others)
pushed-ok (Ok n) number trees others P e is p = subst (P others) (sym e) (subst (λ ts. P ts number) (sym is) p)
pushed-ok (Err x) number trees others P e is p = tt

-- either way
pub pushed : {A E : Type 0} (r : Result A E) (trees before others : List KeyTree) (P : List KeyTree → Type 0) → OnOk r (others ≡ trees) → OnErr r (others ≡ before) → P trees → P before → P others
pushed (Ok n) trees before others P ok err p q = subst P (sym ok) p
pushed (Err x) trees before others P ok err p q = subst P (sym err) q

-- ---- the tree with no event

pub at-empty : (f : ℕ) (trees : List KeyTree) (tree n : ℕ) → tree ≡ 0 → within f trees tree n ≡ None
at-empty zero trees tree n e = refl
at-empty (suc f) trees tree n e = by (n == 1) refl (λ k. at-empty f trees (below (root trees tree) n) (n / 2) k)
  where
    is : root trees tree ≡ empty
    is = ap (root trees) e

    none : (b : Bool) → ◌≡◌ {A = ℕ} (cond b 0 0) 0
    none true = refl
    none false = refl

    by : (b : Bool) → (n == 1) ≡ b → (below (root trees tree) n ≡ 0 → within f trees (below (root trees tree) n) (n / 2) ≡ None) → within (suc f) trees tree n ≡ None
    by true d rest = chosen-true (n == 1) _ _ d ∙ ap (λ (t : KeyTree). t.event) is
    by false d rest = chosen-false (n == 1) _ _ d ∙ rest (ap (λ t. below t n) is ∙ none (n % 2 == 0))
