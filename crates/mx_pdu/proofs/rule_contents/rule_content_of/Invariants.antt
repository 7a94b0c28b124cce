use Rattle.std.proofs.Common.{◌≡◌}
use Rattle.std.specs.List.Sorted.{IsStrictlySortedBy}
use Rattle.std.specs.Map.{keys_of}
use Rattle.std.specs.String.{string_cmp}
use Rattle.serde_json.specs.View.{members_view}
use Rattle.mx_redact.specs.Redaction.{members_where}
use Rattle.mx_redact.proofs.AppendLemmas.{appended, AllAbove}
use Rattle.mx_pdu.specs.RuleContent.{is_rule_key}
use Rattle.mx_pdu.proofs.rule_contents.rule_content_of.Given as goal

-- what was copied, with what is left
abbrev pub invariant-loop-key : goal.invariant-loop-key
invariant-loop-key l =
    IsStrictlySortedBy string_cmp (keys_of l.key-iterator)
    × AllAbove (members_view l.kept.entries) l.key-iterator
    × (appended (members_view l.kept.entries) (members_where is_rule_key (members_view l.key-iterator)) ≡ members_where is_rule_key (members_view l.content.entries))
