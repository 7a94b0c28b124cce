-- The place of a name, byte by byte.
use Rattle.std.proofs.Common.{◌≡◌, ℕ, ◌+◌, ◌<◌, ◌%◌, List, [], ◌∷◌, length, get_or, take, sym, ◌∙◌, ap, arith, sum}
use Rattle.std.proofs.lemmas.List.{take_more}
use Rattle.std.proofs.lemmas.List.Sums.{sum_by-append}
use Rattle.std.proofs.Math.Nat.{mod-add-mod}

pub place_number-more : (xs : List ℕ) (i d count number : ℕ) → i < length xs → number ≡ sum (take i xs) % count → (number + get_or xs i d) % count ≡ sum (take (i + 1) xs) % count
place_number-more xs i d count number l h =
    let whole : sum (take (i + 1) xs) ≡ sum (take i xs) + get_or xs i d =
    ap sum (take_more xs i d l) ∙ sum_by-append (λ n. n) (take i xs) (get_or xs i d ∷ []) ∙ ap (λ n. sum (take i xs) + n) (let e : 0 + get_or xs i d ≡ get_or xs i d = omega arith in e) in
    ap (λ n. (n + get_or xs i d) % count) h ∙ mod-add-mod (sum (take i xs)) count (get_or xs i d) ∙ ap (λ n. n % count) (sym whole)
