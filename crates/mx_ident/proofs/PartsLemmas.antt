-- The parts of a text between separators, as std's `split` cuts it.
use Rattle.std.proofs.Common.{◌≡◌, ℕ, ◌==◌, List, [], ◌∷◌, cond, ap, refl}
use Rattle.std.specs.List.{slice_split, onto_first}
use Rattle.mx_ident.specs.Identifier.{parts}

pub parts-slice_split : (separator : ℕ) (s : List ℕ) → slice_split (λ b. b == separator) s ≡ parts separator s
parts-slice_split separator [] = refl
parts-slice_split separator (c ∷ cs) =
    ap (λ rest. cond (c == separator) ([] ∷ rest) (onto_first c rest)) (parts-slice_split separator cs)
