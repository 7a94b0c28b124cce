use Rattle.std.proofs.Common.{◌≡◌, ◌++◌, true, filter_map, drop}
use Rattle.std.specs.List.{list_all}
use Rattle.serde_json.specs.Find.{as_str}
use Rattle.serde_json.specs.View.{view}
use Rattle.serde_json.specs.declared.value.Value.{Value}
use Rattle.mx_ident.specs.Identifier.{is_event_id}
use Rattle.mx_export.proofs.event_fields.event_ids_of.Given as goal

abbrev pub invariant-loop-item : goal.invariant-loop-item
invariant-loop-item l =
    (l.ids.items ++ filter_map (λ (v : Value). as_str (view v)) (drop l.item-index l.items) ≡ filter_map (λ (v : Value). as_str (view v)) l.items)
    × (list_all is_event_id (filter_map (λ (v : Value). as_str (view v)) (drop l.item-index l.items)) ≡ true)
