-- The fault of a list of numbers.
use Rattle.std.specs.Prelude.{List, if◌then◌else◌, Option, Some, None}
use Rattle.std.specs.List.{list_all, list_any}
use Rattle.serde_json.specs.Data.{Num}
use Rattle.serde_json.specs.Find.{is_float}
use Rattle.mx_canon.specs.Canonical.{is_exact}
use Rattle.mx_canon.specs.declared.checking.NotCanonical.{NotCanonical}
use Rattle.mx_canon.specs.declared.checking.NotCanonical.TheVariants.{Float, Range}

abbrev pub fault_of : List Num → Option NotCanonical
fault_of ns = if list_any is_float ns then Some Float else (if list_all is_exact ns then None else Some Range)

abbrev pub number_fault : Num → Option NotCanonical
number_fault n = if is_float n then Some Float else (if is_exact n then None else Some Range)

-- a float is graver than an integer out of range
abbrev pub graver : Option NotCanonical → Option NotCanonical → Option NotCanonical
graver (Some Float) b = Some Float
graver (Some Range) (Some Float) = Some Float
graver (Some Range) (Some Range) = Some Range
graver (Some Range) None = Some Range
graver None b = b
