-- Where a text is cut.
use Rattle.std.proofs.Common.{◌≡◌, ◌<◌, ◌-◌, ℕ, zero, suc, List, true, false, refl, arith}
use Rattle.std.specs.Prelude.{slice_index_or}
use Rattle.mx_lines.specs.Contents.{cut_place, is_inside}

pub cut_on : (text : List ℕ) (p : ℕ) → 0 < p → is_inside (slice_index_or text p 0) ≡ true → cut_place text (p - 1) ≡ cut_place text p
cut_on text zero below is = absurd (omega arith)
cut_on text (suc p) below is =
    let e : suc p - 1 ≡ p = omega arith in
    rw (e, is) refl

pub cut_here : (text : List ℕ) (p : ℕ) → is_inside (slice_index_or text p 0) ≡ false → p ≡ cut_place text p
cut_here text zero is = refl
cut_here text (suc p) is = rw is refl

pub cut_first : (text : List ℕ) (p : ℕ) → p ≡ 0 → p ≡ cut_place text p
cut_first text zero is = refl
cut_first text (suc p) is = absurd (omega arith)
