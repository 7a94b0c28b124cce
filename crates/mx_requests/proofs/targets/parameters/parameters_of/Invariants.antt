use Rattle.std.proofs.Common.{◌≡◌, ◌++◌, map}
use Rattle.form_urlencoded.specs.Parse.{raw_pairs_left}
use Rattle.mx_requests.specs.Targets.{decoded_pair, parameters}
use Rattle.mx_requests.specs.Parameters.{parameter_shown}
use Rattle.mx_requests.proofs.targets.parameters.parameters_of.Given as goal

abbrev pub invariant-loop-name : goal.invariant-loop-name
invariant-loop-name l =
    map parameter_shown l.found.items ++ map decoded_pair (raw_pairs_left l.name-iterator) ≡ parameters l.fn.query
