-- A parameter of the program as the definitions': its name and its value.
use Rattle.std.specs.Prelude.{ℕ, List, string_bytes}
use Rattle.mx_requests.specs.declared.targets.parameters.Parameter.{Parameter}

abbrev pub parameter_shown : Parameter → List ℕ × List ℕ
parameter_shown p = (string_bytes p.name, string_bytes p.value)
