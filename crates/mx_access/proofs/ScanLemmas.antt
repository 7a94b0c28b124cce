-- Scanning for a glob with one step back to the last `*`.
use Rattle.std.proofs.Common.{◌≡◌, ◌≤◌, ◌+◌, ◌*◌, ℕ, Bool, true, false, ◌||◌, ◌&&◌, List, [], ◌∷◌, length, Option, None, Some, refl, sym, ap, subst, ◌∙◌, inl, inr, arith}
use Rattle.std.specs.Prelude.{◌==◌}
use Rattle.std.specs.List.{list_all}
use Rattle.std.proofs.lemmas.Bool.{false≢true, or_cases, or_left, or_right, or_from, and_parts, ne_eqb}
use Rattle.mx_access.specs.Acl.{matches_from, glob_matches}

-- a longer run of the last `*` leads to a match: what follows it, and the text at which its run was last ended
abbrev pub later_run : List ℕ → List ℕ → Bool
later_run after [] = false
later_run after (c ∷ cs) = glob_matches (42 ∷ after) cs

abbrev pub later : Option (List ℕ × List ℕ) → Bool
later None = false
later (Some star) = later_run star.0 star.1

-- how often the last `*` may take one more character
abbrev pub rounds : List ℕ → Option (List ℕ × List ℕ) → ℕ
rounds text None = length text + 1
rounds text (Some star) = length star.1

abbrev pub length_after : Option (List ℕ × List ℕ) → ℕ
length_after None = 0
length_after (Some star) = length star.0

-- what is left of the pattern and of the text decides, with the last `*`
pub record IsScan (pattern text p t : List ℕ) (star : Option (List ℕ × List ℕ)) : Type 0 where
  pub same : glob_matches pattern text ≡ (glob_matches p t || later star)
  pub covers : later star ≡ true → glob_matches (42 ∷ p) t ≡ true
  pub pattern_left : length p ≤ length pattern
  pub text_left : length t ≤ rounds text star
  pub after_left : length_after star ≤ length pattern

or_false : (b : Bool) → (b || false) ≡ b
or_false true = refl
or_false false = refl

only-stars : (p : List ℕ) → list_all (λ c. c == 42) p ≡ glob_matches p []
only-stars [] = refl
only-stars (c ∷ cs) = by (c == 42) (only-stars cs)
  where
    by : (b : Bool) → list_all (λ c. c == 42) cs ≡ glob_matches cs [] → (b && list_all (λ c. c == 42) cs) ≡ matches_from b c (glob_matches cs) []
    by true same = same ∙ sym (or_false (glob_matches cs []))
    by false same = refl

-- ---- a `*` takes more than one after it

-- `*` before a text that matches
star-here : (p t : List ℕ) → glob_matches (42 ∷ p) t ≡ (glob_matches p t || later_run p t)
star-here p [] = refl
star-here p (c ∷ cs) = refl

star-longer : (p : List ℕ) (c : ℕ) (cs : List ℕ) → glob_matches (42 ∷ p) cs ≡ true → glob_matches (42 ∷ p) (c ∷ cs) ≡ true
star-longer p c cs h = or_right (glob_matches p (c ∷ cs)) (glob_matches (42 ∷ p) cs) h

star-none : (p : List ℕ) → glob_matches (42 ∷ p) [] ≡ true → glob_matches p [] ≡ true
star-none p h = elim (or_cases (glob_matches p []) false h) [ inl k ↦ k | inr k ↦ absurd (false≢true k) ]

-- two of them are one
two-stars : (p t : List ℕ) → glob_matches (42 ∷ 42 ∷ p) t ≡ true → glob_matches (42 ∷ p) t ≡ true
two-stars p [] h = star-none (42 ∷ p) h
two-stars p (c ∷ cs) h =
    elim (or_cases (glob_matches (42 ∷ p) (c ∷ cs)) (glob_matches (42 ∷ 42 ∷ p) cs) h) [
      | inl k ↦ k
      | inr k ↦ star-longer p c cs (two-stars p cs k)
    ]

-- ---- characters that are no `*`

-- such a character takes one character of the text
one-taken : (p : ℕ) (ps : List ℕ) (c : ℕ) (cs : List ℕ) → (p == 42) ≡ false → glob_matches (p ∷ ps) (c ∷ cs) ≡ true → glob_matches ps cs ≡ true
one-taken p ps c cs h m = (and_parts ((p == 63) || (p == c)) (glob_matches ps cs) (sym (ap (λ b. matches_from b p (glob_matches ps) (c ∷ cs)) h) ∙ m)).1

none-taken : (p : ℕ) (ps : List ℕ) → (p == 42) ≡ false → glob_matches (p ∷ ps) [] ≡ false
none-taken p ps h = ap (λ b. matches_from b p (glob_matches ps) []) h

-- what matches it later, matches what follows it later
star-taken : (p : ℕ) (ps : List ℕ) (c : ℕ) (cs : List ℕ) → (p == 42) ≡ false → glob_matches (42 ∷ p ∷ ps) (c ∷ cs) ≡ true → glob_matches (42 ∷ ps) cs ≡ true
star-taken p ps c [] h m =
    elim (or_cases (glob_matches (p ∷ ps) (c ∷ [])) (glob_matches (42 ∷ p ∷ ps) []) m) [
      | inl k ↦ or_left (glob_matches ps []) false (one-taken p ps c [] h k)
      | inr k ↦ absurd (false≢true (sym (none-taken p ps h) ∙ star-none (p ∷ ps) k))
    ]
star-taken p ps c (d ∷ ds) h m =
    elim (or_cases (glob_matches (p ∷ ps) (c ∷ d ∷ ds)) (glob_matches (42 ∷ p ∷ ps) (d ∷ ds)) m) [
      | inl k ↦ or_left (glob_matches ps (d ∷ ds)) (glob_matches (42 ∷ ps) ds) (one-taken p ps c (d ∷ ds) h k)
      | inr k ↦ star-longer ps d ds (star-taken p ps d ds h k)
    ]

-- ---- steps of the scan

pub scan-begins : (pattern text : List ℕ) → IsScan pattern text pattern text None
scan-begins pattern text = record {
  same = sym (or_false (glob_matches pattern text));
  covers = λ h. absurd (false≢true h);
  pattern_left = omega arith;
  text_left = omega arith;
  after_left = omega arith;
}

module _ (pattern text : List ℕ) where
  -- a `*` is the last one from here on
  star-at : (p t : List ℕ) (star : Option (List ℕ × List ℕ)) → IsScan pattern text (42 ∷ p) t star → IsScan pattern text p t (Some (p, t))
  star-at p t star s = record {
    same = s.same ∙ alone (later star) refl ∙ star-here p t;
    covers = λ h. star-here p t ∙ or_right (glob_matches p t) (later_run p t) h;
    pattern_left = let l = s.pattern_left in omega arith;
    text_left = omega arith;
    after_left = let l = s.pattern_left in omega arith;
  }
    where
      alone : (b : Bool) → later star ≡ b → (glob_matches (42 ∷ p) t || later star) ≡ glob_matches (42 ∷ p) t
      alone true h = (let m : glob_matches (42 ∷ p) t ≡ true = two-stars p t (s.covers h) in or_left (glob_matches (42 ∷ p) t) (later star) m ∙ sym m)
      alone false h = ap (λ b. glob_matches (42 ∷ p) t || b) h ∙ or_false (glob_matches (42 ∷ p) t)

  pub scan-star : (w p t : List ℕ) (q : ℕ) (star : Option (List ℕ × List ℕ)) → w ≡ q ∷ p → q ≡ 42 → IsScan pattern text w t star → IsScan pattern text p t (Some (p, t))
  scan-star w p t q star e is s = star-at p t star (subst (λ x. IsScan pattern text x t star) (e ∙ ap (λ x. x ∷ p) is) s)

  -- a character that fits
  one-at : (p : ℕ) (ps : List ℕ) (c : ℕ) (cs : List ℕ) (star : Option (List ℕ × List ℕ)) → (p == 42) ≡ false → ((p == 63) || (p == c)) ≡ true
      → IsScan pattern text (p ∷ ps) (c ∷ cs) star → IsScan pattern text ps cs star
  one-at p ps c cs star other fits s = record {
    same = s.same ∙ ap (λ b. matches_from b p (glob_matches ps) (c ∷ cs) || later star) other ∙ ap (λ b. (b && glob_matches ps cs) || later star) fits;
    covers = λ h. star-taken p ps c cs other (s.covers h);
    pattern_left = let l = s.pattern_left in omega arith;
    text_left = let l = s.text_left in omega arith;
    after_left = s.after_left;
  }

  pub scan-one : (w ps t cs : List ℕ) (p c : ℕ) (star : Option (List ℕ × List ℕ)) → w ≡ p ∷ ps → t ≡ c ∷ cs → (p ≡ 42 → ⊥) → true ≡ ((p == 63) || (p == c))
      → IsScan pattern text w t star → IsScan pattern text ps cs star
  scan-one w ps t cs p c star e f other fits s =
      one-at p ps c cs star (ne_eqb p 42 other) (sym fits) (subst (λ x. IsScan pattern text (p ∷ ps) x star) f (subst (λ x. IsScan pattern text x t star) e s))

  -- no match here, and no `*` before it
  pub scan-fails : (p t : List ℕ) (star : Option (List ℕ × List ℕ)) → glob_matches p t ≡ false → later star ≡ false → IsScan pattern text p t star → false ≡ glob_matches pattern text
  scan-fails p t star h k s = sym (s.same ∙ or_from (glob_matches p t) (later star) h k)

  -- no match here, and the last `*` takes one character more
  pub scan-back : (p t after : List ℕ) (c : ℕ) (cs : List ℕ) → glob_matches p t ≡ false → IsScan pattern text p t (Some (after, c ∷ cs)) → IsScan pattern text after cs (Some (after, cs))
  scan-back p t after c cs h s = record {
    same = s.same ∙ ap (λ b. b || glob_matches (42 ∷ after) cs) h ∙ star-here after cs;
    covers = λ k. star-here after cs ∙ or_right (glob_matches after cs) (later_run after cs) k;
    pattern_left = s.after_left;
    text_left = omega arith;
    after_left = s.after_left;
  }

  -- at the end of the text only the rest of the pattern counts
  pub scan-ends : (p : List ℕ) (star : Option (List ℕ × List ℕ)) → IsScan pattern text p [] star → list_all (λ c. c == 42) p ≡ glob_matches pattern text
  scan-ends p star s = only-stars p ∙ sym (s.same ∙ by (later star) refl)
    where
      by : (b : Bool) → later star ≡ b → (glob_matches p [] || later star) ≡ glob_matches p []
      by true h = (let m : glob_matches p [] ≡ true = star-none p (s.covers h) in or_left (glob_matches p []) (later star) m ∙ sym m)
      by false h = ap (λ b. glob_matches p [] || b) h ∙ or_false (glob_matches p [])

-- ---- no match at a character

pub fails-at : (p : ℕ) (ps : List ℕ) (c : ℕ) (cs : List ℕ) → (p == 42) ≡ false → ((p == 63) || (p == c)) ≡ false → glob_matches (p ∷ ps) (c ∷ cs) ≡ false
fails-at p ps c cs other fits = ap (λ b. matches_from b p (glob_matches ps) (c ∷ cs)) other ∙ ap (λ b. b && glob_matches ps cs) fits

-- ---- the scan ends

-- rounds, and characters of the pattern in the last one
abbrev pub left : List ℕ → List ℕ → List ℕ → Option (List ℕ × List ℕ) → ℕ
left pattern text p star = rounds text star * (length pattern + 1) + length p
