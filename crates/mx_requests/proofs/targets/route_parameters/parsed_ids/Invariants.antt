use Rattle.std.proofs.Common.{◌≡◌, ◌++◌, true, map, drop}
use Rattle.std.specs.List.{list_all}
use Rattle.mx_ident.specs.Identifier.{is_event_id}
use Rattle.mx_requests.proofs.targets.route_parameters.parsed_ids.Given as goal

abbrev pub invariant-loop-text : goal.invariant-loop-text
invariant-loop-text l =
    (l.ids.items ++ map (λ t. t.now) (drop l.text-index l.texts) ≡ map (λ t. t.now) l.texts)
    × (list_all is_event_id (map (λ t. t.now) (drop l.text-index l.texts)) ≡ true)
