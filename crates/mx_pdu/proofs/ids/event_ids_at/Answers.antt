use Rattle.std.proofs.Common.{◌≡◌, ℕ, List, IfOk, filter_map, ap, ◌∙◌, subst}
use Rattle.std.specs.Prelude.{unwrap_or}
use Rattle.std.specs.List.{list_all}
use Rattle.serde_json.specs.Data.{object, no_items}
use Rattle.serde_json.specs.Find.{as_str}
use Rattle.serde_json.specs.View.{view, members_view}
use Rattle.serde_json.specs.declared.value.Value.{Value}
use Rattle.mx_ident.specs.Identifier.{is_event_id}
use Rattle.mx_redact.specs.Fields.{item_list}
use Rattle.mx_pdu.specs.EventFields.{texts_in}
use Rattle.mx_pdu.proofs.IdLemmas.{texts-of}
use Rattle.mx_pdu.proofs.ids.event_ids_at.Goals as goal

pub event_ids_of-requires : goal.event_ids_of-requires
event_ids_of-requires c =
    ap (λ (vs : List Value). list_all is_event_id (filter_map (λ (v : Value). as_str (view v)) vs)) c.deref.ensures.value
    ∙ ap (list_all is_event_id) (texts-of c.in-Some.items.now.items)
    ∙ ap (λ o. list_all is_event_id (filter_map as_str (item_list (unwrap_or o no_items)))) c.in-Some.ensures
    ∙ c.requires

pub returns-in-Some : goal.returns-in-Some
returns-in-Some c =
    let same : filter_map (λ (v : Value). as_str (view v)) c.deref.result.now ≡ texts_in c.args.key (object (members_view c.args.fields.now.members.now.entries)) =
    ap (λ (vs : List Value). filter_map (λ (v : Value). as_str (view v)) vs) c.deref.ensures.value
    ∙ texts-of c.in-Some.items.now.items
    ∙ ap (λ o. filter_map as_str (item_list (unwrap_or o no_items))) c.in-Some.ensures in
    subst (λ (xs : List (List ℕ)). IfOk c.event_ids_of.result (λ ids. ids.items ≡ xs)) same c.event_ids_of.ensures
