-- Parameters with a name, one by one.
use Rattle.std.proofs.Common.{◌≡◌, ℕ, List, ◌∷◌, true, false, bytes_eq, map, refl, string_bytes}
use Rattle.mx_requests.specs.declared.targets.parameters.Parameter.{Parameter}
use Rattle.mx_requests.specs.Targets.{all_named}
use Rattle.mx_requests.specs.Parameters.{parameter_shown}

pub named-now : (name : List ℕ) (p : Parameter) (ps : List Parameter) → bytes_eq (string_bytes p.name) name ≡ true
    → all_named name (map parameter_shown (p ∷ ps)) ≡ string_bytes p.value ∷ all_named name (map parameter_shown ps)
named-now name p ps is = rw is refl

pub named-later : (name : List ℕ) (p : Parameter) (ps : List Parameter) → bytes_eq (string_bytes p.name) name ≡ false
    → all_named name (map parameter_shown (p ∷ ps)) ≡ all_named name (map parameter_shown ps)
named-later name p ps is = rw is refl
