-- A string's bytes, written in runs: what stands as itself goes in one piece.
use Rattle.std.proofs.Common.{◌≡◌, ℕ, ◌+◌, ◌-◌, ◌<◌, ◌≤◌, List, [], ◌∷◌, ◌++◌, length, take, drop, get_or, refl, sym, ap, ap₂, ◌∙◌, append_assoc, append-nil, arith}
use Rattle.std.specs.List.{flat_map}
use Rattle.std.proofs.Math.Seq.{take-add}
use Rattle.std.proofs.lemmas.List.{drop-drop, drop_more, take-append-drop}
use Rattle.mx_canon.specs.Canonical.{escaped}

pub flat_map-append : (xs ys : List ℕ) → flat_map escaped (xs ++ ys) ≡ flat_map escaped xs ++ flat_map escaped ys
flat_map-append [] ys = refl
flat_map-append (x ∷ xs) ys = ap (λ t. escaped x ++ t) (flat_map-append xs ys) ∙ sym (append_assoc (escaped x) _ _)

-- a run in which each byte stands as itself
abbrev pub IsPlain : List ℕ → Type 0
IsPlain run = flat_map escaped run ≡ run

pub IsPlain-more : (run : List ℕ) (b : ℕ) → IsPlain run → escaped b ≡ b ∷ [] → IsPlain (run ++ b ∷ [])
IsPlain-more run b plain one = flat_map-append run (b ∷ []) ∙ ap₂ (λ x y. x ++ y) plain (append-nil (escaped b) ∙ one)

-- a plain run and then an escaped byte are written, and the rest is left
pub run_and_byte : (out run rest all : List ℕ) (b : ℕ) → IsPlain run → out ++ flat_map escaped (run ++ b ∷ rest) ≡ all
    → ((out ++ run) ++ escaped b) ++ flat_map escaped rest ≡ all
run_and_byte out run rest all b plain e =
    append_assoc (out ++ run) (escaped b) (flat_map escaped rest)
    ∙ append_assoc out run (escaped b ++ flat_map escaped rest)
    ∙ ap (λ t. out ++ t) (ap (λ t. t ++ (escaped b ++ flat_map escaped rest)) (sym plain) ∙ sym (flat_map-append run (b ∷ rest)))
    ∙ e

-- what stands from `start` on: a run up to i, the byte at i, and the rest
pub run_then_byte : (xs : List ℕ) (start i : ℕ) → start ≤ i → i < length xs → drop start xs ≡ take (i - start) (drop start xs) ++ get_or xs i 0 ∷ drop (i + 1) xs
run_then_byte xs start i low high =
    let at : start + (i - start) ≡ i = omega arith in
    sym (take-append-drop (i - start) (drop start xs))
    ∙ ap (λ t. take (i - start) (drop start xs) ++ t) (drop-drop (i - start) start xs ∙ ap (λ n. drop n xs) at ∙ drop_more xs i 0 high)

pub run_more : (xs : List ℕ) (start i : ℕ) → start ≤ i → i < length xs → take (i + 1 - start) (drop start xs) ≡ take (i - start) (drop start xs) ++ get_or xs i 0 ∷ []
run_more xs start i low high =
    let count : i + 1 - start ≡ (i - start) + 1 = omega arith in
    let at : start + (i - start) ≡ i = omega arith in
    ap (λ n. take n (drop start xs)) count
    ∙ take-add (i - start) 1 (drop start xs)
    ∙ ap (λ t. take (i - start) (drop start xs) ++ take 1 t) (drop-drop (i - start) start xs ∙ ap (λ n. drop n xs) at ∙ drop_more xs i 0 high)
