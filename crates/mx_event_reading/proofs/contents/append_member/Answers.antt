use Rattle.std.proofs.Common.{◌≡◌, ap, sym, ◌∙◌, string_bytes, rules, true}
use Rattle.std.specs.Prelude.{if◌then◌else◌}
use Rattle.serde_json.specs.Data.{put}
use Rattle.serde_json.specs.View.{view, members_view}
use Rattle.serde_json.proofs.Views.{members_view-insert_entry}
use Rattle.mx_pdu.specs.RuleContent.{is_rule_key}
use Rattle.mx_event_reading.proofs.contents.append_member.Goals as goal

pub returns-then-is_rule_key-clause-ok : goal.returns-then-is_rule_key-clause-ok
returns-then-is_rule_key-clause-ok c =
    let v = c.in_ok-value.value in
    let k = c.args.key.now in
    let old = c.args.known.now.members.entries in
    let named : string_bytes c.in_ok-from_str.field-0 ≡ k = search rules in
    let is : is_rule_key k ≡ true = sym c.is_rule_key.ensures ∙ c.if-is_rule_key.true in
    record {
      value = view v;
      appended = c.in_ok-value.ensures.ok;
      knows_is = ap members_view c.in_ok-insert.ensures.entries ∙ members_view-insert_entry old c.in_ok-from_str.field-0 v
          ∙ ap (λ n. put n (view v) (members_view old)) named
          ∙ ap (λ b. if b then put k (view v) (members_view old) else members_view old) (sym is);
    }
