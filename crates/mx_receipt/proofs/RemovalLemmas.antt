-- Events that are taken out of a list that rises.
use Rattle.std.proofs.Common.{◌≡◌, ◌==◌, ◌<◌, ◌++◌, ◌||◌, ℕ, zero, suc, Bool, true, false, cond, not, List, [], ◌∷◌, filter, length, refl, sym, ap, subst, ◌∙◌, arith, eq-eqb, eqb-true}
use Rattle.std.proofs.Math.ListN.{get_or}
use Rattle.std.proofs.lemmas.List.Sorted.{searched}
use Rattle.std.specs.List.{remove}
use Rattle.std.specs.List.Sorted.{IsBinarySearchResult}
use Rattle.std.specs.Ordering.{nat_cmp}
use Rattle.std.specs.Prelude.{Result, Ok}
use Rattle.mx_graph.specs.Edges.{Rises}
use Rattle.mx_graph.specs.Record.{is_in}
use Rattle.mx_graph.proofs.Closure.{or_left, or_right}
use Rattle.mx_state_res.proofs.SetLemmas.{rises-places}

-- a test that all pass leaves all
pub kept-all : (f : ℕ → Bool) (xs : List ℕ) → ((p : ℕ) → is_in xs p ≡ true → f p ≡ true) → filter f xs ≡ xs
kept-all f [] h = refl
kept-all f (x ∷ xs) h =
    ap (λ b. cond b (x ∷ filter f xs) (filter f xs)) (h x (or_left (x == x) (is_in xs x) (eq-eqb x x refl)))
    ∙ ap (λ ys. x ∷ ys) (kept-all f xs (λ p e. h p (or_right (x == p) (is_in xs p) e)))

pub at-in : (xs : List ℕ) (i : ℕ) → i < length xs → is_in xs (get_or xs i 0) ≡ true
at-in [] i l = absurd (omega arith)
at-in (x ∷ xs) zero l = or_left (x == x) (is_in xs x) (eq-eqb x x refl)
at-in (x ∷ xs) (suc i) l = or_right (x == get_or xs i 0) (is_in xs (get_or xs i 0)) (at-in xs i (omega arith))

apart : (a b : ℕ) → (a ≡ b → ⊥) → not (a == b) ≡ true
apart a b h = by (a == b) refl
  where
    by : (t : Bool) → (a == b) ≡ t → not t ≡ true
    by true e = absurd (h (eqb-true a b e))
    by false e = refl

-- the one at the place goes, and no other is it
pub removed-is : (xs : List ℕ) (i x : ℕ) → Rises xs → i < length xs → get_or xs i 0 ≡ x → remove xs i ≡ filter (λ p. not (x == p)) xs
removed-is [] i x r l e = absurd (omega arith)
removed-is (y ∷ xs) zero x r l e =
    sym (kept-all (λ p. not (x == p)) xs (λ p m. apart x p (λ k. let h : y < p = r.0 p m in let same : y ≡ x = e in let other : x ≡ p = k in absurd (omega arith))))
    ∙ ap (λ b. cond b (y ∷ filter (λ p. not (x == p)) xs) (filter (λ p. not (x == p)) xs)) (ap not (sym (eq-eqb x y (sym e))))
removed-is (y ∷ xs) (suc i) x r l e =
    ap (λ ys. y ∷ ys) (removed-is xs i x r.1 (omega arith) e)
    ∙ ap (λ b. cond b (y ∷ filter (λ p. not (x == p)) xs) (filter (λ p. not (x == p)) xs))
    (sym (apart x y (λ k. let h : y < get_or xs i 0 = r.0 (get_or xs i 0) (at-in xs i (omega arith)) in let same : get_or xs i 0 ≡ x = e in let other : x ≡ y = k in absurd (omega arith))))

-- it is not there
pub absent-is : (xs : List ℕ) (x : ℕ) → is_in xs x ≡ false → xs ≡ filter (λ p. not (x == p)) xs
absent-is xs x e = sym (kept-all (λ p. not (x == p)) xs (λ p m. apart x p (λ k. absurd (cc (sym (ap (is_in xs) k ∙ m) ∙ e)))))

-- ---- one more is taken out

pub is_in-more : (xs : List ℕ) (e p : ℕ) → is_in (xs ++ e ∷ []) p ≡ (is_in xs p || (e == p))
is_in-more [] e p = or-none (e == p)
  where
    or-none : (b : Bool) → (b || false) ≡ b
    or-none true = refl
    or-none false = refl
is_in-more (x ∷ xs) e p = ap (λ b. (x == p) || b) (is_in-more xs e p) ∙ grouped (x == p) (is_in xs p) (e == p)
  where
    grouped : (a b c : Bool) → (a || (b || c)) ≡ ((a || b) || c)
    grouped true b c = refl
    grouped false b c = refl

twice : (f g : ℕ → Bool) (xs : List ℕ) → filter (λ p. not (g p)) (filter (λ p. not (f p)) xs) ≡ filter (λ p. not (f p || g p)) xs
twice f g [] = refl
twice f g (x ∷ xs) = by (f x) (twice f g xs)
  where
    by : (s : Bool) → filter (λ p. not (g p)) (filter (λ p. not (f p)) xs) ≡ filter (λ p. not (f p || g p)) xs
        → filter (λ p. not (g p)) (cond (not s) (x ∷ filter (λ p. not (f p)) xs) (filter (λ p. not (f p)) xs)) ≡ cond (not (s || g x)) (x ∷ filter (λ p. not (f p || g p)) xs) (filter (λ p. not (f p || g p)) xs)
    by true e = e
    by false e = λ i. cond (not (g x)) (x ∷ e i) (e i)

pub one-fewer : (taken xs : List ℕ) (e : ℕ) → filter (λ p. not (e == p)) (filter (λ p. not (is_in taken p)) xs) ≡ filter (λ p. not (is_in (taken ++ e ∷ []) p)) xs
one-fewer taken xs e = twice (is_in taken) (λ p. e == p) xs ∙ λ i. filter (λ p. not (sym (is_in-more taken e p) i)) xs

-- what a search found
pub found-place : (xs ys : List ℕ) (x : ℕ) (r : Result ℕ ℕ) (i : ℕ) → Rises xs → ys ≡ xs → r ≡ Ok i → IsBinarySearchResult (λ y. nat_cmp y x) ys r → (i < length xs) × (get_or xs i 0 ≡ x)
found-place xs ys x r i rises same is found =
    let m = searched xs x (Ok i) (subst (IsBinarySearchResult (λ y. nat_cmp y x) xs) is (subst (λ zs. IsBinarySearchResult (λ y. nat_cmp y x) zs r) same found)) (rises-places xs rises) in
    m
