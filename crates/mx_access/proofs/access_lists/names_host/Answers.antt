use Rattle.std.proofs.Common.{List, ap, ◌∙◌}
use Rattle.std.specs.Prelude.{filter_map, unwrap_or}
use Rattle.std.specs.List.{list_any}
use Rattle.serde_json.specs.Data.{no_items}
use Rattle.serde_json.specs.Find.{as_str}
use Rattle.serde_json.specs.View.{view}
use Rattle.serde_json.specs.declared.value.Value.{Value}
use Rattle.mx_redact.specs.Fields.{item_list, is_some_and}
use Rattle.mx_access.specs.Acl.{glob}
use Rattle.mx_access.proofs.AclLemmas.{any-text}
use Rattle.mx_access.proofs.access_lists.names_host.Goals as goal

pub returns-in-Some : goal.returns-in-Some
returns-in-Some c =
    c.has_match.ensures
    ∙ ap (λ (vs : List Value). list_any (λ v. is_some_and (glob c.args.host.now) (as_str (view v))) vs) c.deref.ensures.value
    ∙ any-text (glob c.args.host.now) c.in-Some.entries.now.items
    ∙ ap (λ o. list_any (glob c.args.host.now) (filter_map as_str (item_list (unwrap_or o no_items)))) c.in-Some.ensures
