-- Lists of views, and the entries of one caller.
use Rattle.std.proofs.Common.{◌≡◌, ◌≢◌, ◌⊎◌, ℕ, zero, suc, ◌<◌, Bool, arith, true, false, cond, eq-eqb, ne_eqb, List, [], ◌∷◌, ◌++◌, length, set, sym, refl, ap, ◌∙◌, subst, inl, inr, ⊎_elim, append-nil, append_assoc}
use Rattle.std.specs.Prelude.{All}
use Rattle.std.proofs.lemmas.List.Elements.{All-head, All-tail}
use mathlib.Core.Option.{some, some-ne-none, some-injective}
use lib.ListN.{get_elem?}
use Rattle.crossbeam_queue.proofs.Lists.{at_set}
use Rattle.mx_dock.specs.declared.views.PassView.{PassView}
use Rattle.mx_dock.specs.Journal.{IsPrefix, since, entries_of}
use Rattle.mx_dock.specs.Rule.{Each}

pub in_list : {A : Type 0} (xs : List A) (i : ℕ) (a : A) → get_elem? xs i ≡ some a → i < length xs
in_list [] i a e = absurd (some-ne-none a (sym e))
in_list (x ∷ xs) zero a e = omega arith
in_list (x ∷ xs) (suc i) a e = let h = in_list xs i a e in omega arith

-- what stands in a longer list stood there before, or is its last element
pub at_end : {A : Type 0} (xs : List A) (a b : A) (i : ℕ) → get_elem? (xs ++ a ∷ []) i ≡ some b → (get_elem? xs i ≡ some b) ⊎ ((i ≡ length xs) × (a ≡ b))
at_end [] a b zero e = inr (refl, some-injective a b e)
at_end [] a b (suc i) e = absurd (some-ne-none b (sym e))
at_end (x ∷ xs) a b zero e = inl e
at_end (x ∷ xs) a b (suc i) e = ⊎_elim (λ h. inl h) (λ h. inr (ap suc h.0, h.1)) (at_end xs a b i e)

pub prefix_refl : {A : Type 0} (a : List A) → IsPrefix a a
prefix_refl a = ([], sym (append-nil a))

pub prefix_trans : {A : Type 0} (a b c : List A) → IsPrefix a b → IsPrefix b c → IsPrefix a c
prefix_trans a b c p q = (p.0 ++ q.0, q.1 ∙ ap (λ l. l ++ q.0) p.1 ∙ append_assoc a p.0 q.0)

pub since-append : {A : Type 0} (seen rest : List A) → since seen (seen ++ rest) ≡ rest
since-append [] rest = refl
since-append (x ∷ xs) rest = since-append xs rest

-- a journal is what was seen of it, and what came since
pub since_whole : {A : Type 0} (seen journal : List A) → IsPrefix seen journal → journal ≡ seen ++ since seen journal
since_whole seen journal p = p.1 ∙ ap (λ l. seen ++ l) (sym (ap (since seen) p.1 ∙ since-append seen p.0))

pub unheld : (b : Bool) → ¬ (b ≡ true) → b ≡ false
unheld true n = absurd (n refl)
unheld false n = refl

module _ {E : Type 0} where
  -- one view is changed, and the others fit in the new way as well
  pub each_set : (F G : ℕ → PassView E → Type 0) (views : List (PassView E)) (index : ℕ) (w : PassView E) → G index w → ((i : ℕ) (u : PassView E) → i ≢ index → F i u → G i u) → Each F views → Each G (set views index w)
  each_set F G views index w mine others all i u at = ⊎_elim (λ (m : (i ≡ index) × (w ≡ u)). subst (λ (y : ℕ × PassView E). G y.0 y.1) (λ k. (sym m.0 k, m.1 k)) mine)
      (λ (o : (i ≢ index) × (get_elem? views i ≡ some u)). others i u o.0 (all i u o.1)) (at_set views index i w u at)

  pub each_snoc : (F : ℕ → PassView E → Type 0) (views : List (PassView E)) (w : PassView E) → F (length views) w → Each F views → Each F (views ++ w ∷ [])
  each_snoc F views w last all i u at = ⊎_elim (λ h. all i u h) (λ (m : (i ≡ length views) × (w ≡ u)). subst (λ (y : ℕ × PassView E). F y.0 y.1) (λ k. (sym m.0 k, m.1 k)) last) (at_end views w u i at)

  pub entries_of-own : (caller : E → ℕ) (number : ℕ) (es : List E) → All (λ e. caller e ≡ number) es → entries_of caller number es ≡ es
  entries_of-own caller number [] all = refl
  entries_of-own caller number (e ∷ es) all =
      ap (λ b. cond b (e ∷ entries_of caller number es) (entries_of caller number es)) (eq-eqb (caller e) number (All-head (λ x. caller x ≡ number) e es all))
      ∙ ap (λ l. e ∷ l) (entries_of-own caller number es (All-tail (λ x. caller x ≡ number) e es all))

  pub entries_of-none : (caller : E → ℕ) (number : ℕ) (es : List E) → All (λ e. caller e ≢ number) es → entries_of caller number es ≡ []
  entries_of-none caller number [] all = refl
  entries_of-none caller number (e ∷ es) all =
      ap (λ b. cond b (e ∷ entries_of caller number es) (entries_of caller number es)) (ne_eqb (caller e) number (All-head (λ x. caller x ≢ number) e es all))
      ∙ entries_of-none caller number es (All-tail (λ x. caller x ≢ number) e es all)
