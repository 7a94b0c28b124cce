-- What a glob matches, as a relation.
use Rattle.std.proofs.Common.{◌≡◌, ℕ, Bool, true, false, ◌||◌, ◌&&◌, List, [], ◌∷◌, ◌++◌, refl, sym, ap, subst, ◌∙◌, inl, inr}
use Rattle.std.specs.Prelude.{◌==◌}
use Rattle.std.specs.List.{list_any}
use Rattle.std.proofs.lemmas.Bool.{true≢false, or_cases, or_left, or_right, and_parts, eqb-true, eq-eqb}
use Rattle.mx_access.specs.Acl.{suffixes, matches_from, glob_matches, Matches, both_end, any_run, any_one, itself}

-- the text is any run, and then a text that passes
record IsRunAnd (test : List ℕ → Bool) (text : List ℕ) : Type 0 where
  pub run : List ℕ
  pub rest : List ℕ
  pub is : run ++ rest ≡ text
  pub passes : test rest ≡ true

any_suffix : (test : List ℕ → Bool) (text : List ℕ) → list_any test (suffixes text) ≡ true → IsRunAnd test text
any_suffix test [] h =
    elim (or_cases (test []) false h) [
      | inl k ↦ record { run = []; rest = []; is = refl; passes = k }
      | inr k ↦ absurd (true≢false (sym k))
    ]
any_suffix test (c ∷ cs) h =
    elim (or_cases (test (c ∷ cs)) (list_any test (suffixes cs)) h) [
      | inl k ↦ record { run = []; rest = c ∷ cs; is = refl; passes = k }
      | inr k ↦ (let s : IsRunAnd test cs = any_suffix test cs k in record { run = c ∷ s.run; rest = s.rest; is = ap (λ t. c ∷ t) s.is; passes = s.passes })
    ]

first_suffix : (test : List ℕ → Bool) (text : List ℕ) → test text ≡ true → list_any test (suffixes text) ≡ true
first_suffix test [] h = or_left (test []) false h
first_suffix test (c ∷ cs) h = or_left (test (c ∷ cs)) (list_any test (suffixes cs)) h

later_suffix : (test : List ℕ → Bool) (run rest : List ℕ) → test rest ≡ true → list_any test (suffixes (run ++ rest)) ≡ true
later_suffix test [] rest h = first_suffix test rest h
later_suffix test (c ∷ run) rest h = or_right (test (c ∷ run ++ rest)) (list_any test (suffixes (run ++ rest))) (later_suffix test run rest h)

-- the first character of the pattern, where it is no `*`
one-first : (p : ℕ) (ps : List ℕ) (test : List ℕ → Bool) (text : List ℕ) → ((t : List ℕ) → test t ≡ true → Matches ps t) → matches_from false p test text ≡ true → Matches (p ∷ ps) text
one-first p ps test [] later h = absurd (true≢false (sym h))
one-first p ps test (c ∷ cs) later h =
    let parts = and_parts ((p == 63) || (p == c)) (test cs) h in
    elim (or_cases (p == 63) (p == c) parts.0) [
      | inl k ↦ subst (λ q. Matches (q ∷ ps) (c ∷ cs)) (sym (eqb-true p 63 k)) (any_one ps cs c (later cs parts.1))
      | inr k ↦ subst (λ q. Matches (q ∷ ps) (c ∷ cs)) (sym (eqb-true p c k)) (itself ps cs c (later cs parts.1))
    ]

first : (p : ℕ) (ps : List ℕ) (test : List ℕ → Bool) (text : List ℕ) (b : Bool) → (p == 42) ≡ b → ((t : List ℕ) → test t ≡ true → Matches ps t) → matches_from b p test text ≡ true → Matches (p ∷ ps) text
first p ps test text true star later h =
    let s : IsRunAnd test text = any_suffix test text h in
    subst (λ q. Matches (q ∷ ps) text) (sym (eqb-true p 42 star)) (subst (Matches (42 ∷ ps)) s.is (any_run ps s.run s.rest (later s.rest s.passes)))
first p ps test text false star later h = one-first p ps test text later h

pub matches-so : (pattern text : List ℕ) → glob_matches pattern text ≡ true → Matches pattern text
matches-so [] [] h = both_end
matches-so [] (c ∷ cs) h = absurd (true≢false (sym h))
matches-so (p ∷ ps) text h = first p ps (glob_matches ps) text (p == 42) refl (λ t k. matches-so ps t k) h

-- a character that is itself matches also where it is a `*`
itself-first : (c : ℕ) (test : List ℕ → Bool) (text : List ℕ) (b : Bool) → test text ≡ true → matches_from b c test (c ∷ text) ≡ true
itself-first c test text true h = or_right (test (c ∷ text)) (list_any test (suffixes text)) (first_suffix test text h)
itself-first c test text false h = ap (λ b. b && test text) (or_right (c == 63) (c == c) (eq-eqb c c refl)) ∙ h

pub so-matches : (pattern text : List ℕ) → Matches pattern text → glob_matches pattern text ≡ true
so-matches _ _ both_end = refl
so-matches _ _ (any_run pattern run rest m) = later_suffix (glob_matches pattern) run rest (so-matches pattern rest m)
so-matches _ _ (any_one pattern text c m) = so-matches pattern text m
so-matches _ _ (itself pattern text c m) = itself-first c (glob_matches pattern) text (c == 42) (so-matches pattern text m)
