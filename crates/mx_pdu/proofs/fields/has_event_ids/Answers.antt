use Rattle.std.proofs.Common.{◌∙◌, ap}
use Rattle.std.specs.List.{list_all}
use Rattle.serde_json.specs.View.{view}
use Rattle.serde_json.specs.declared.value.Value.{Value}
use Rattle.mx_ident.specs.Identifier.{event_id_error}
use Rattle.mx_pdu.specs.Format.{is_id}
use Rattle.mx_pdu.proofs.FieldLemmas.{items-all, array-test}
use Rattle.mx_pdu.proofs.fields.has_event_ids.Goals as goal

pub returns-in-Some : goal.returns-in-Some
returns-in-Some c =
    c.are_event_ids.ensures
    ∙ ap (list_all (λ (v : Value). is_id event_id_error (view v))) c.deref.ensures.value
    ∙ items-all (is_id event_id_error) c.in-Some.items.now.items
    ∙ array-test (list_all (is_id event_id_error)) _ _ c.in-Some.ensures
