-- Refusals for want of storage.
use Rattle.std.proofs.Common.{◌≡◌, sym, subst, ◌∙◌}
use Rattle.std.specs.Prelude.{Result, Ok, Err, IfErr, OnErr}
use Rattle.std.specs.Result.{IsErrAnd}
use Rattle.mx_keeper.specs.declared.refusals.CallError.{CallError}
use Rattle.mx_keeper.specs.declared.refusals.CallError.TheVariants.{Storage}

-- a refusal for want of storage that is handed on was one
pub is-storage : {A : Type 0} (r : Result A CallError) (cause : CallError) → IsErrAnd r (λ e. e ≡ cause) → r ≡ Err Storage → cause ≡ Storage
is-storage (Ok x) cause h is = absurd h
is-storage (Err e) cause h is = let same : e ≡ Storage = cc is in sym h ∙ same

-- an error that is handed on was one
pub handed-on : {A E : Type 0} (r : Result A E) (cause : E) (P : E → Type 0) → IsErrAnd r (λ e. e ≡ cause) → P cause → IfErr r P
handed-on (Ok x) cause P h p = tt
handed-on (Err e) cause P h p = subst P (sym h) p

-- what holds in any case holds at an error
pub on_err : {A E Q : Type 0} (r : Result A E) → Q → OnErr r Q
on_err (Ok x) h = tt
on_err (Err e) h = h
