-- Rows of distinct chains are no more than the events that they are among.
use Rattle.std.proofs.Common.{◌≡◌, ℕ, zero, suc, ◌==◌, ◌≤◌, ◌<◌, nat_eq, nat_le, Bool, true, false, ◌||◌, ◌&&◌, ◌⊎◌, inl, inr, List, [], ◌∷◌, ◌++◌, length, map, get_or, set, take, Option, refl, sym, ap, ap₂, subst, ◌∙◌, arith, eq-eqb, eqb-true, Vec}
use Rattle.std.proofs.Math.Seq.{map-set_same}
use Rattle.std.proofs.lemmas.Bool.Decides.{nat_tests}
use Rattle.std.proofs.lemmas.Cmp.{nat_eq_equiv}
use Rattle.std.proofs.lemmas.List.{length-map}
use Rattle.std.proofs.lemmas.Map.Made.{length-le_from_is_member}
use Rattle.std.specs.List.{All, AllByRecursion, IsDistinct, list_any}
use Rattle.std.specs.Set.{is_member}
use Rattle.std.specs.declared.alloc.Global.{Global}
use Rattle.mx_graph.specs.AuthChains.{any_has, chains_of, has_row, rows_of, some_cited_has, some_has, AreDistinct, AreEnds, AreFew, AreMetBySome, AreMetToo, AreReached}
use Rattle.mx_graph.specs.Graph.{most_chains}
use Rattle.mx_graph.specs.Record.{is_in}
use Rattle.mx_graph.specs.declared.auth_chains.ChainPlace.{ChainPlace}
use Rattle.mx_graph.specs.declared.reached_rows.Reached.{Reached}
use Rattle.mx_graph.proofs.Closure.{or_cases, or_left, or_right}

-- ---- rows of distinct chains

all-push : (P : ℕ → Type 0) (es : List Reached) (new : Reached) → AllByRecursion P (chains_of es) → P new.chain → AllByRecursion P (chains_of (es ++ new ∷ []))
all-push P [] new h k = (k, tt)
all-push P (e ∷ es) new h k = (h.0, all-push P es new h.1 k)

pub distinct-none : AreDistinct []
unfolding IsDistinct
distinct-none = tt

pub distinct-push : (es : List Reached) (new : Reached) → All (λ e. (e.chain == new.chain) ≡ false) es → AreDistinct es → AreDistinct (es ++ new ∷ [])
unfolding IsDistinct
distinct-push [] new others h = (tt, tt)
distinct-push (e ∷ es) new others h = (all-push (λ c. nat_eq e.chain c ≡ false) es new h.0 (others zero e (omega arith)), distinct-push es new (λ k d l. others (suc k) d (omega arith)) h.1)

pub distinct-set : (es : List Reached) (i : ℕ) (new d : Reached) → new.chain ≡ (get_or es i d).chain → AreDistinct es → AreDistinct (set es i new)
distinct-set es i new d same h = subst (IsDistinct nat_eq) (sym (map-set_same (λ (e : Reached). e.chain) es i new d same)) h

-- ---- they are no more than the rows that they meet

map-in : (f : ℕ → ℕ) (xs : List ℕ) (x : ℕ) → is_in xs x ≡ true → is_member nat_eq (map f xs) (f x) ≡ true
map-in f [] x e = absurd (cc e)
map-in f (y ∷ xs) x e = by (map-in f xs x) (or_cases (y == x) (is_in xs x) e)
  where
    by : (is_in xs x ≡ true → is_member nat_eq (map f xs) (f x) ≡ true) → ((y == x) ≡ true) ⊎ (is_in xs x ≡ true) → is_member nat_eq (map f (y ∷ xs)) (f x) ≡ true
    by later (inl k) = or_left (nat_eq (f x) (f y)) (is_member nat_eq (map f xs) (f x)) (eq-eqb (f x) (f y) (ap f (sym (eqb-true y x k))))
    by later (inr k) = or_right (nat_eq (f x) (f y)) (is_member nat_eq (map f xs) (f x)) (later k)

module _ (at : ℕ → ChainPlace) (members : List ℕ) where
  abbrev chain_of : ℕ → ℕ
  chain_of p = (at p).chain

  chains-among : (es : List Reached) → AreEnds at es → ((p : ℕ) → has_row es (at p).chain p ≡ true → is_in members p ≡ true) → (c : ℕ) → is_member nat_eq (chains_of es) c ≡ true → is_member nat_eq (map chain_of members) c ≡ true
  chains-among [] ends among c h = absurd (cc h)
  chains-among (e ∷ es) ends among c h =
      by (chains-among es (λ k d l. ends (suc k) d (omega arith)) (λ p m. among p (or_right ((e.chain == (at p).chain) && nat_le p e.last) (has_row es (at p).chain p) m)) c)
      (or_cases (nat_eq c e.chain) (is_member nat_eq (chains_of es) c) h)
    where
      own : (at e.last).chain ≡ e.chain
      own = ends zero e (omega arith)

      here : is_in members e.last ≡ true
      here = among e.last
          (or_left ((e.chain == (at e.last).chain) && nat_le e.last e.last) (has_row es (at e.last).chain e.last)
          (ap₂ (λ a b. a && b) (eq-eqb e.chain (at e.last).chain (sym own)) (let l : e.last ≤ e.last = omega arith in grind (arith, nat_tests))))

      by : (is_member nat_eq (chains_of es) c ≡ true → is_member nat_eq (map chain_of members) c ≡ true) → (nat_eq c e.chain ≡ true) ⊎ (is_member nat_eq (chains_of es) c ≡ true) → is_member nat_eq (map chain_of members) c ≡ true
      by later (inl k) = subst (λ d. is_member nat_eq (map chain_of members) d ≡ true) (own ∙ sym (eqb-true c e.chain k)) (map-in chain_of members e.last here)
      by later (inr k) = later k

  few-among : (es : List Reached) → AreEnds at es → AreDistinct es → ((p : ℕ) → has_row es (at p).chain p ≡ true → is_in members p ≡ true) → length es ≤ length members
  few-among es ends distinct among =
      let l : length (chains_of es) ≤ length (map chain_of members) = length-le_from_is_member nat_eq_equiv (chains_of es) (map chain_of members) distinct (chains-among es ends among) in
      let a : length (chains_of es) ≡ length es = length-map es (λ (e : Reached). e.chain) in
      let b : length (map chain_of members) ≡ length members = length-map members chain_of in
      omega arith

pub few-rows : (at : ℕ → ChainPlace) (has : ℕ → ℕ → Bool) (es : List Reached) → AreEnds at es → AreDistinct es → ((chain p : ℕ) → has_row es chain p ≡ true → has chain p ≡ true) → AreFew at has → length es ≤ most_chains
few-rows at has es ends distinct within few =
    let a : length es ≤ length few.members = few-among at few.members es ends distinct (λ p h. few.among p (within (at p).chain p h)) in
    let b : length few.members ≤ most_chains = few.few in
    omega arith

pub few-narrow : (at : ℕ → ChainPlace) (has narrow : ℕ → ℕ → Bool) → ((chain p : ℕ) → narrow chain p ≡ true → has chain p ≡ true) → AreFew at has → AreFew at narrow
few-narrow at has narrow within few = record { members = few.members; among = λ p h. few.among p (within (at p).chain p h); few = few.few }

-- ---- some of a list

pub any-part : {X : Type 0} (test : X → Bool) (xs : List X) (i : ℕ) → list_any test (take i xs) ≡ true → list_any test xs ≡ true
any-part test [] zero e = e
any-part test [] (suc i) e = e
any-part test (x ∷ xs) zero e = absurd (cc e)
any-part test (x ∷ xs) (suc i) e = by (any-part test xs i) (or_cases (test x) (list_any test (take i xs)) e)
  where
    by : (list_any test (take i xs) ≡ true → list_any test xs ≡ true) → (test x ≡ true) ⊎ (list_any test (take i xs) ≡ true) → (test x || list_any test xs) ≡ true
    by later (inl k) = or_left (test x) (list_any test xs) k
    by later (inr k) = or_right (test x) (list_any test xs) (later k)

pub any-item : {X : Type 0} (test : X → Bool) (xs : List X) (i : ℕ) (x : X) → i < length xs → x ≡ get_or xs i x → test x ≡ true → list_any test xs ≡ true
any-item test [] i x l here e = absurd (omega arith)
any-item test (y ∷ xs) zero x l here e = or_left (test y) (list_any test xs) (ap test (sym here) ∙ e)
any-item test (y ∷ xs) (suc i) x l here e = or_right (test y) (list_any test xs) (any-item test xs i x (omega arith) here e)

-- ---- the rows that are found, while they are

module _ (at : ℕ → ChainPlace) (kept : ℕ → Option (Vec Reached Global)) (ends : (r : ℕ) → AreEnds at (rows_of (kept r))) where
  pub few-reached : (events : List ℕ) (i : ℕ) (found : List Reached) → AreReached at kept (take i events) found → AreDistinct found → AreFew at (some_cited_has at kept events) → length found ≤ most_chains
  few-reached events i found so_far distinct few =
      few-rows at (some_cited_has at kept events) found (so_far.ends ends) distinct
      (λ chain p h. any-part (λ q. (((at q).chain == chain) && nat_le p q) || has_row (rows_of (kept q)) chain p) events i (sym (so_far.rows chain p) ∙ h)) few

  either : (a b c : Bool) → (b ≡ true → c ≡ true) → (a || b) ≡ true → (a || c) ≡ true
  either true b c h e = refl
  either false b c h e = h e

  pub few-met : (events : List ℕ) (i : ℕ) (old met : List Reached) → AreMetToo at kept (take i events) old met → AreEnds at old → AreDistinct met → AreFew at (λ chain p. has_row old chain p || some_has kept events chain p) → length met ≤ most_chains
  few-met events i old met so_far before distinct few =
      few-rows at (λ chain p. has_row old chain p || some_has kept events chain p) met (so_far.ends ends before) distinct
      (λ chain p h. either (has_row old chain p) (some_has kept (take i events) chain p) (some_has kept events chain p)
      (any-part (λ s. has_row (rows_of (kept s)) chain p) events i) (sym (so_far.rows chain p) ∙ h)) few

  pub few-more : (apart : List (Vec ℕ Global)) (i : ℕ) (others : Vec ℕ Global) (met : List Reached) → i < length apart → others ≡ get_or apart i others → AreMetBySome at kept (take i apart) met → AreFew at (any_has kept apart) → AreFew at (λ chain p. has_row met chain p || some_has kept others.items chain p)
  few-more apart i others met l here so_far few =
      few-narrow at (any_has kept apart) (λ chain p. has_row met chain p || some_has kept others.items chain p)
      (λ chain p h. by chain p (or_cases (has_row met chain p) (some_has kept others.items chain p) h)) few
    where
      test : ℕ → ℕ → Vec ℕ Global → Bool
      test chain p set = some_has kept set.items chain p

      by : (chain p : ℕ) → (has_row met chain p ≡ true) ⊎ (some_has kept others.items chain p ≡ true) → any_has kept apart chain p ≡ true
      by chain p (inl h) = any-part (test chain p) apart i (sym (so_far.rows chain p) ∙ h)
      by chain p (inr h) = any-item (test chain p) apart i others l here h
