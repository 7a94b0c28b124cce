use Rattle.std.proofs.Common.{◌≡◌, ◌∷◌, ◌+◌, List, true, filter_map, drop, sym, ap, ◌∙◌, subst, arith}
use Rattle.std.proofs.lemmas.List.{drop_more}
use Rattle.std.specs.List.{list_all}
use Rattle.serde_json.specs.Find.{as_str}
use Rattle.serde_json.specs.View.{view}
use Rattle.serde_json.specs.declared.value.Value.{Value}
use Rattle.mx_ident.specs.Identifier.{is_event_id}
use Rattle.mx_pdu.proofs.IdLemmas.{first-of}
use Rattle.mx_export.proofs.event_fields.event_ids_of.Goals as goal

pub push_event_id-requires : goal.push_event_id-requires
push_event_id-requires c =
    let xs = c.args.items.now in
    let i = c.loop-item.item-index in
    let x = c.item-item.result in
    let split : drop i xs ≡ x ∷ drop (i + 1) xs = drop_more xs i x (omega arith) ∙ ap (λ y. y ∷ drop (i + 1) xs) (sym c.item-item.is) in
    let left = subst (λ (r : List Value). list_all is_event_id (filter_map (λ (v : Value). as_str (view v)) r) ≡ true) split c.loop-item.invariant.1 in
    (first-of (as_str (view x)) _ left).0
