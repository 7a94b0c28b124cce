use Rattle.std.proofs.Common.{◌≡◌, length, option_map}
use Rattle.json.specs.Json.{value}
use Rattle.serde_json.specs.Data.{Members}
use Rattle.serde_json.specs.View.{members_view}
use Rattle.mx_pdu.specs.RuleContent.{is_rule_key}
use Rattle.mx_redact.specs.Redaction.{members_where}
use Rattle.mx_event_reading.proofs.InOrderLemmas.{MembersAppended}
use Rattle.mx_event_reading.proofs.contents.append_content.Given as goal

-- the members so far, those that rules read, and their text
abbrev pub invariant-members : goal.invariant-members
invariant-members l =
    (old : Members)
    × MembersAppended (value 123) l.initial.reader l.reader (option_map (λ s. s.now) l.last) old l.fn.out.items l.out.items
    × (members_where is_rule_key old ≡ members_view l.known.members.entries)

abbrev pub decreases-members : goal.decreases-members
decreases-members l = length l.reader
