-- A refusal that is handed on.
use Rattle.std.proofs.Common.{◌≡◌, ◌↔◌, Result, Ok, Err, IsErrOf, sym, ap, ◌∙◌}
use Rattle.std.specs.Result.{IsErrAnd}

-- at `?`, where both errors are of one type
pub handed-on : {A B E P : Type 0} (r : Result A E) (given told : E) → IsErrAnd r (λ e. e ≡ given) → (IsErrOf {T = B} (Err given) told ↔ P) → (IsErrOf r told ↔ P)
handed-on (Ok x) given told h k = absurd h
handed-on (Err e) given told h k =
    (λ is. let same : e ≡ told = cc is in k.0 (ap (λ y. Err y) (sym h ∙ same)), λ p. let same : given ≡ told = cc (k.1 p) in ap (λ y. Err y) (h ∙ same))
