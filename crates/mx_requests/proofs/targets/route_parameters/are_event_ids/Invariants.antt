use Rattle.std.proofs.Common.{◌≡◌, map, drop}
use Rattle.std.specs.List.{list_all}
use Rattle.mx_ident.specs.Identifier.{is_event_id}
use Rattle.mx_requests.specs.Targets.{all_named}
use Rattle.mx_requests.specs.Parameters.{parameter_shown}
use Rattle.mx_requests.proofs.targets.route_parameters.are_event_ids.Given as goal

abbrev pub invariant-loop-parameter : goal.invariant-loop-parameter
invariant-loop-parameter l =
    list_all is_event_id (all_named l.fn.name (map parameter_shown (drop l.parameter-index l.fn.parameters)))
    ≡ list_all is_event_id (all_named l.fn.name (map parameter_shown l.fn.parameters))
