-- A value is canonical where no cause is found that it is not.
use Rattle.std.proofs.Common.{◌≡◌, Bool, true, false, cond, Some, None, Result, Ok, Err, is_none, is_ok, MatchResult, refl, sym, ap, ◌∙◌}
use Rattle.std.specs.Prelude.{⊤}
use Rattle.std.specs.List.{list_any}
use Rattle.serde_json.specs.Data.{Data}
use Rattle.serde_json.specs.Find.{is_float}
use Rattle.mx_canon.specs.Canonical.{is_canonical, canonical_error, numbers}
use Rattle.mx_canon.specs.declared.checking.NotCanonical.{NotCanonical}
use Rattle.mx_canon.specs.declared.checking.NotCanonical.TheVariants.{Float, Range}
use Rattle.mx_canon.proofs.FaultLemmas.{list_all-is_exact}

no_cause : (a b : Bool) → (a ≡ true → b ≡ false) → is_none (cond a (Some Float) (cond b None (Some Range))) ≡ b
no_cause true b h = sym (h refl)
no_cause false true h = refl
no_cause false false h = refl

pub is_none-canonical_error : (d : Data) → is_none (canonical_error d) ≡ is_canonical d
is_none-canonical_error d = no_cause (list_any is_float (numbers d)) (is_canonical d) (list_all-is_exact (numbers d))

pub is_ok-canonical : (r : Result ⊤ NotCanonical) (d : Data) → MatchResult r (λ _. canonical_error d ≡ None) (λ cause. canonical_error d ≡ Some cause) → is_ok r ≡ is_canonical d
is_ok-canonical (Ok x) d h = sym (ap is_none h) ∙ is_none-canonical_error d
is_ok-canonical (Err cause) d h = sym (ap is_none h) ∙ is_none-canonical_error d
