use Rattle.std.proofs.Common.{◌∙◌, ◌&&◌, ap, length, sym, List}
use Rattle.std.specs.Prelude.{nat_le}
use Rattle.std.specs.List.{list_all}
use Rattle.serde_json.specs.View.{view, items_view}
use Rattle.serde_json.specs.declared.value.Value.{Value}
use Rattle.mx_redact.specs.Fields.{item_list}
use Rattle.mx_pdu.specs.Format.{is_short}
use Rattle.mx_pdu.proofs.FieldLemmas.{items-all, items-length, array-limit, no_array-limit}
use Rattle.mx_pdu.proofs.limits.keeps_list_limit.Goals as goal

pub returns-in-Some : goal.returns-in-Some
returns-in-Some c =
    let vs = c.in-Some.items.now.items in
    c.are_few_and_short.ensures
    ∙ ap (λ (values : List Value). nat_le (length values) c.args.most && list_all (λ (v : Value). is_short (view v)) values) c.deref.ensures.value
    ∙ ap (λ b. nat_le (length vs) c.args.most && b) (items-all is_short vs)
    ∙ ap (λ n. nat_le n c.args.most && list_all is_short (item_list (items_view vs))) (sym (items-length vs))
    ∙ array-limit (λ ds. nat_le (length ds) c.args.most && list_all is_short ds) _ _ c.in-Some.ensures

pub returns-in-None : goal.returns-in-None
returns-in-None c = no_array-limit (λ ds. nat_le (length ds) c.args.most && list_all is_short ds) _ c.in-None.ensures
