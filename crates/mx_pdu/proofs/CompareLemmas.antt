-- Texts that are compared piece by piece.
use Rattle.std.proofs.Common.{◌≡◌, ◌==◌, Bor, suc, arith, ℕ, Bool, true, false, List, [], ◌∷◌, ◌++◌, take, drop, length, sym, ap, ap₂, ◌∙◌, bytes_eq, true≢false, refl}
use Rattle.std.proofs.lemmas.Bool.Decides.{nat_tests}
use Rattle.std.proofs.lemmas.List.{append_assoc, append_cancel_left, append-nil, take-append-drop}
use Rattle.std.proofs.lemmas.Slice.Eq.{bytes_eq-Decides}
use Rattle.std.proofs.Math.Seq.{take-append_seam}
use Rattle.mx_pdu.specs.EventTexts.{HasCompared, HasTold}
use Rattle.mx_pdu.specs.declared.comparing.Comparison.{Comparison}

module _ (w r p t : List ℕ) where
  pub goes-on : bytes_eq (take (length p) r) p ≡ true → w ≡ t ++ r → w ≡ (t ++ p) ++ drop (length p) r
  goes-on begins is =
      is ∙ ap (λ x. t ++ x) (sym (take-append-drop (length p) r))
      ∙ ap (λ x. t ++ (x ++ drop (length p) r)) ((bytes_eq-Decides (take (length p) r) p).0 begins)
      ∙ sym (append_assoc t p (drop (length p) r))

  differs : bytes_eq (take (length p) r) p ≡ false → w ≡ t ++ r → (s : List ℕ) → w ≡ (t ++ p) ++ s → ⊥
  differs other is s h =
      let rest : r ≡ p ++ s = append_cancel_left t _ _ (sym is ∙ h ∙ append_assoc t p s) in
      let begins : take (length p) r ≡ p = ap (take (length p)) rest ∙ take-append_seam p s in
      true≢false (sym ((bytes_eq-Decides (take (length p) r) p).1 begins) ∙ other)

  pub ends : (b : Bool) → (b ≡ true → w ≡ t ++ r) → (b ≡ false → (s : List ℕ) → ¬ (w ≡ t ++ s))
      → bytes_eq (take (length p) r) p ≡ false → (s : List ℕ) → w ≡ (t ++ p) ++ s → ⊥
  ends true same never other s h = differs other (same refl) s h
  ends false same never other s h = never refl (p ++ s) (h ∙ append_assoc t p s)

-- ---- what was told

pub told-more : (n : ℕ) (w t p told : List ℕ) → told ≡ n ∷ (w ++ t) → told ++ p ≡ n ∷ (w ++ (t ++ p))
told-more n w t p told is = ap (λ x. x ++ p) is ∙ ap (λ x. n ∷ x) (append_assoc w t p)

abbrev tail : List ℕ → List ℕ
tail [] = []
tail (x ∷ xs) = xs

abbrev head : List ℕ → ℕ
head [] = 0
head (x ∷ xs) = x

-- the text that is told is the one that it began with, and so is what was taken
module _ (w v t r : List ℕ) (e : (length w ∷ (w ++ [])) ++ r ≡ length v ∷ (v ++ t)) where
  longs : length w ≡ length v
  longs = ap head e

  bodies : w ++ r ≡ v ++ t
  bodies = ap (λ x. x ++ r) (sym (append-nil w)) ∙ ap tail e

  pub same_text : w ≡ v
  same_text = sym (take-append_seam w r) ∙ ap₂ take longs bodies ∙ take-append_seam v t

  pub same_taken : r ≡ t
  same_taken = append_cancel_left v r t (ap (λ x. x ++ r) (sym same_text) ∙ bodies)

-- ---- at the beginning

pub begun : (text : Bor (List ℕ)) → HasTold (record { whole = text; rest = text; is_same = true }) (length text.now ∷ (text.now ++ []))
begun text = ([], refl, record { same = λ _. refl; other = λ is. absurd (true≢false is) })

-- ---- at the end

module _ (c : Comparison) (whole text : List ℕ) (e : (taken : List ℕ) × ((length whole ∷ (whole ++ [])) ++ text ≡ length c.whole.now ∷ (c.whole.now ++ taken)) × HasCompared c taken) where
  is_whole : whole ≡ c.whole.now
  is_whole = same_text whole c.whole.now e.0 text e.1

  is_taken : text ≡ e.0
  is_taken = same_taken whole c.whole.now e.0 text e.1

  pub ended_same : c.is_same ≡ true → whole ≡ text ++ c.rest.now
  ended_same is = is_whole ∙ e.2.same is ∙ ap (λ t. t ++ c.rest.now) (sym is_taken)

  pub ended_other : c.is_same ≡ false → false ≡ bytes_eq text whole
  ended_other is = go (bytes_eq text whole) refl
    where
      go : (b : Bool) → bytes_eq text whole ≡ b → false ≡ b
      go true h =
          absurd (e.2.other is [] (sym is_whole ∙ sym ((bytes_eq-Decides text whole).0 h) ∙ is_taken ∙ sym (append-nil e.0)))
      go false h = refl

no_zero : (n : ℕ) → (suc n == 0) ≡ false
no_zero n = grind (arith, nat_tests)

-- what is left tells whether the texts are the same
pub rest-tells : (text rest whole : List ℕ) → whole ≡ text ++ rest → (length rest == 0) ≡ bytes_eq text whole
rest-tells text [] whole is = sym ((bytes_eq-Decides text whole).1 (sym (is ∙ append-nil text)))
rest-tells text (x ∷ rest) whole is = no_zero (length rest) ∙ go (bytes_eq text whole) refl
  where
    go : (b : Bool) → bytes_eq text whole ≡ b → false ≡ b
    go true h = absurd (let same = append_cancel_left text [] (x ∷ rest) (append-nil text ∙ (bytes_eq-Decides text whole).0 h ∙ is) in cc)
    go false h = refl
