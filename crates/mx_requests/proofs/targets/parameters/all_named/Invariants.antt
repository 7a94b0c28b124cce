use Rattle.std.proofs.Common.{◌≡◌, ◌++◌, drop, map}
use Rattle.mx_requests.specs.Targets.{all_named}
use Rattle.mx_requests.specs.Parameters.{parameter_shown}
use Rattle.mx_requests.proofs.targets.parameters.all_named.Given as goal

abbrev pub invariant-loop-parameter : goal.invariant-loop-parameter
invariant-loop-parameter l =
    map (λ v. v.now) l.values.items ++ all_named l.fn.name (map parameter_shown (drop l.parameter-index l.fn.parameters))
    ≡ all_named l.fn.name (map parameter_shown l.fn.parameters)
