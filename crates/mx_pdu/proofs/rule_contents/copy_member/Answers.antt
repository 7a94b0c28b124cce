use Rattle.std.proofs.Common.{◌≡◌, ap, ap₂, ◌∙◌, string_bytes, rules}
use Rattle.serde_json.specs.Data.{put}
use Rattle.serde_json.specs.View.{view, members_view}
use Rattle.serde_json.proofs.Views.{members_view-insert_entry}
use Rattle.mx_pdu.proofs.rule_contents.copy_member.Goals as goal

pub returns : goal.returns
returns c =
    let named : string_bytes c.in_ok-name.name ≡ string_bytes c.args.key.now = search rules in
    let value : view c.in_ok-value.value ≡ view c.args.value.now = search rules in
    ap members_view c.in_ok-insert.ensures.entries
    ∙ members_view-insert_entry c.args.kept.now.entries c.in_ok-name.name c.in_ok-value.value
    ∙ ap₂ (λ k d. put k d (members_view c.args.kept.now.entries)) named value
