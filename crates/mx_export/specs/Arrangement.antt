-- The order in which the events of a log stand (our own): the next is the first of those left that cites none that is
-- left.
use Rattle.std.specs.Prelude.{ℕ, zero, suc, Bool, true, not, ◌&&◌, List, [], ◌∷◌, ◌++◌, Option, Some, None, if◌then◌else◌, option_map, unwrap_or}
use Rattle.std.specs.List.{list_any}

-- the first element that passes a test, and the list without it
abbrev pub taken : {A : Type 0} → (A → Bool) → List A → Option (A × List A)
taken test [] = None
taken test (x ∷ xs) = if test x then Some (x, xs) else option_map (λ r. (r.0, x ∷ r.1)) (taken test xs)

-- it cites none of these
abbrev pub is_free : {A : Type 0} → (A → A → Bool) → List A → A → Bool
is_free cites left x = not (list_any (cites x) left)

-- the next that is to be written, and what is left then
abbrev pub next : {A : Type 0} → (A → A → Bool) → List A → Option (A × List A)
next cites left = taken (is_free cites left) left

-- at most so many
abbrev pub arranged : {A : Type 0} → (A → A → Bool) → ℕ → List A → List A
arranged cites zero left = []
arranged cites (suc n) left = unwrap_or (option_map (λ r. r.0 ∷ arranged cites n r.1) (next cites left)) []

-- those that are left after so many: each of them cites one of them, which hashes do not allow
abbrev pub unarranged : {A : Type 0} → (A → A → Bool) → ℕ → List A → List A
unarranged cites zero left = left
unarranged cites (suc n) left = unwrap_or (option_map (λ r. unarranged cites n r.1) (next cites left)) left

-- each of these cites neither itself nor one after it, nor one of the rest
abbrev pub follow_cited : {A : Type 0} → (A → A → Bool) → List A → List A → Bool
follow_cited cites [] rest = true
follow_cited cites (x ∷ xs) rest = not (list_any (cites x) (x ∷ (xs ++ rest))) && follow_cited cites xs rest
