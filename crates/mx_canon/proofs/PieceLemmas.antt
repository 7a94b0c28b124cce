-- Pieces with commas between them, as a loop writes them.
use Rattle.std.proofs.Common.{◌≡◌, ℕ, List, [], ◌∷◌, ◌++◌, Bool, true, false, cond, refl, sym, ap, ◌∙◌, append_assoc, append-nil}
use Rattle.mx_canon.specs.Pieces.{comma_if}
use Rattle.std.specs.List.{join_with_byte, flat_map}

abbrev pub after_commas : List (List ℕ) → List ℕ
after_commas = flat_map (λ piece. 44 ∷ piece)

-- what is left to write: a comma stands before each piece where one was written before
abbrev pub left : Bool → List (List ℕ) → List ℕ
left later pieces = cond later (after_commas pieces) (join_with_byte 44 pieces)

pub joined : (x : List ℕ) (ys : List (List ℕ)) → join_with_byte 44 (x ∷ ys) ≡ x ++ after_commas ys
joined x [] = sym (append-nil x)
joined x (y ∷ ys) = ap (λ t. x ++ 44 ∷ t) (joined y ys)

pub left-[] : (later : Bool) → left later [] ≡ []
left-[] true = refl
left-[] false = refl

-- one piece more, with its comma
pub left-step : (out out' out'' x : List ℕ) (later : Bool) (ys : List (List ℕ)) → out' ≡ out ++ comma_if later → out'' ≡ out' ++ x → out'' ++ left true ys ≡ out ++ left later (x ∷ ys)
left-step out out' out'' x true ys p q = rw (q, p) (append_assoc _ x _ ∙ append_assoc out (44 ∷ []) _)
left-step out out' out'' x false ys p q = rw (q, p, append-nil) (append_assoc out x _ ∙ ap (λ t. out ++ t) (sym (joined x ys)))

-- nothing is left: what was put is the whole, between its brackets
pub ended : (out taken all : List ℕ) (later : Bool) (x y : ℕ) → out ++ left later [] ≡ (taken ++ x ∷ []) ++ all → out ++ y ∷ [] ≡ taken ++ x ∷ (all ++ y ∷ [])
ended out taken all later x y e =
    let whole : out ≡ taken ++ x ∷ all = sym (append-nil out) ∙ ap (λ t. out ++ t) (sym (left-[] later)) ∙ e ∙ append_assoc taken (x ∷ []) all in
    ap (λ t. t ++ y ∷ []) whole ∙ append_assoc taken (x ∷ all) (y ∷ [])
