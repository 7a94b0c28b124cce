-- What two texts begin with alike.
use Rattle.std.proofs.Common.{◌≡◌, ℕ, ◌+◌, ◌-◌, List, ◌++◌, Bool, true, false, not, nat_eq, take, refl, sym, ap, ap₂, ◌∙◌, arith}
use Rattle.std.specs.Cmp.Lexicographic.{pointwise}
use Rattle.std.proofs.Math.Seq.{take-add}
use Rattle.std.proofs.Math.ListN.{drop}
use Rattle.std.proofs.lemmas.Bool.{not-false}
use Rattle.std.proofs.lemmas.Bool.Decides.{Decides-eqb}
use Rattle.std.proofs.lemmas.Slice.Eq.{slice_eq-Decides}

-- texts that begin alike, and of which a piece is the same, begin alike up to the end of the piece
pub alike-further : (a b : List ℕ) (s n : ℕ) (differs : Bool) → differs ≡ not (pointwise nat_eq (take (s + n - s) (drop s a)) (take (s + n - s) (drop s b)))
    → differs ≡ false → take s a ≡ take s b → take (s + n) a ≡ take (s + n) b
alike-further a b s n differs is differs-not alike =
    let m : s + n - s ≡ n = omega arith in
    let same = not-false _ (sym is ∙ differs-not) in
    let equal = (slice_eq-Decides Decides-eqb (take (s + n - s) (drop s a)) (take (s + n - s) (drop s b)) true (sym same)).0 refl in
    take-add s n a ∙ ap₂ (λ x y. x ++ y) alike (ap (λ k. take k (drop s a)) (sym m) ∙ equal ∙ ap (λ k. take k (drop s b)) m) ∙ sym (take-add s n b)
