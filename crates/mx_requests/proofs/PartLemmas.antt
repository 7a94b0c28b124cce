-- The first part with a name.
use Rattle.std.proofs.Common.{◌≡◌, ℕ, List, ◌∷◌, true, false, Some, map, refl, string_bytes}
use Rattle.std.specs.Str.{str_eq_ignore_ascii_case}
use Rattle.mx_requests.specs.declared.authorization.Part.{Part}
use Rattle.mx_requests.specs.Authorization.{part_named}
use Rattle.mx_requests.specs.Reading.{part_shown}

pub named-first : (name : List ℕ) (p : Part) (ps : List Part) → str_eq_ignore_ascii_case (string_bytes p.name) name ≡ true
    → part_named name (map part_shown (p ∷ ps)) ≡ Some (string_bytes p.value)
named-first name p ps is = rw is refl

pub named-later : (name : List ℕ) (p : Part) (ps : List Part) → str_eq_ignore_ascii_case (string_bytes p.name) name ≡ false
    → part_named name (map part_shown (p ∷ ps)) ≡ part_named name (map part_shown ps)
named-later name p ps is = rw is refl
