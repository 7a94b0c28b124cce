-- Access lists, by what rules read of their contents.
use Rattle.std.proofs.Common.{◌≡◌, ℕ, refl, ap, ◌∙◌, Bool, true, false, List}
use Rattle.std.specs.Prelude.{not, ◌&&◌, if◌then◌else◌, codes, filter_map, Option, unwrap_or, option_and_then}
use Rattle.std.specs.List.{list_any}
use Rattle.serde_json.specs.Data.{Data, no_items}
use Rattle.serde_json.specs.Find.{as_array, as_bool, as_str}
use Rattle.mx_ident.specs.Identifier.{host, is_ip_literal}
use Rattle.mx_redact.specs.Fields.{item_list}
use Rattle.mx_pdu.specs.RuleContent.{rule_content}
use Rattle.mx_pdu.proofs.RuleContentLemmas.{field-rule_content}
use Rattle.mx_access.specs.Acl.{glob, content_allows}

-- by the values at the three keys of a content
abbrev allows_by : List ℕ → Option Data → Option Data → Option Data → Bool
allows_by server literals deny allow =
    if is_ip_literal server && not (unwrap_or (option_and_then as_bool literals) true) then false
    else (if list_any (glob (host server)) (filter_map as_str (item_list (unwrap_or (option_and_then as_array deny) no_items))) then false
    else list_any (glob (host server)) (filter_map as_str (item_list (unwrap_or (option_and_then as_array allow) no_items))))

allows-content : (d : Data) (server : List ℕ) → content_allows (rule_content d) server ≡ content_allows d server
unfolding content_allows
allows-content d server =
    λ i. allows_by server (field-rule_content (codes "allow_ip_literals") d refl i) (field-rule_content (codes "deny") d refl i) (field-rule_content (codes "allow") d refl i)

pub content_allows-content : (c d : Data) (server : List ℕ) → c ≡ rule_content d → content_allows c server ≡ content_allows d server
content_allows-content c d server is = ap (λ x. content_allows x server) is ∙ allows-content d server
