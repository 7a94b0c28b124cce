use Rattle.std.proofs.Common.{◌++◌, ◌∷◌, [], Some, codes, option_map, subst, ap, ◌∙◌}
use Rattle.std.specs.Str.{chars}
use Rattle.serde_json.specs.Data.{string}
use Rattle.mx_redact.specs.Fields.{kind}
use Rattle.mx_pdu.specs.Event.{sender_of, state_key_of}
use Rattle.mx_auth.specs.Rules.{label_text}
use Rattle.mx_auth.specs.Versions.{version_text}
use Rattle.mx_graph.specs.Record.{Row}
use Rattle.mx_lines.specs.Written.{with_members}
use Rattle.mx_audit.specs.Reasons.{refusal_of, verdict_text}
use Rattle.mx_audit.proofs.event_lines.write_tail.Goals as goal

pub returns : goal.returns
unfolding chars
returns g c = λ taken had.
    let all = c.end_line.ensures _ (c.write_text_member-4.ensures _ (c.write_text_member-3.ensures _ (c.write_text_member-2.ensures _ (c.write_text_if-2.ensures _ (c.write_text_member.ensures _ (c.write_text_if.ensures taken had)))))) in
    let row = c.row.ensures in
    let verdict = c.verdict-verdict.ensures in
    let rule = c.label_of.ensures ∙ ap (option_map label_text) (c.refusal_of.ensures ∙ ap refusal_of verdict) in
    let sender = c.as_bytes.ensures.value ∙ c.as_str.ensures.text ∙ c.sender.ensures ∙ ap (λ (r : Row). sender_of r.event) row in
    let key = c.state_key.ensures ∙ ap (λ (r : Row). state_key_of r.event) row in
    let type = c.as_bytes-2.ensures.value ∙ c.kind.ensures ∙ ap (λ (r : Row). kind r.event) row in
    let name = c.as_bytes-3.ensures.value ∙ c.verdict_name.ensures ∙ ap verdict_text verdict in
    let version = c.as_bytes-4.ensures.value ∙ c.text.ensures ∙ ap version_text c.version.ensures in
    subst (g.S.TextSink.has_taken c.end_line.new.sink)
    (λ i. with_members taken
    ((codes "rule", option_map string (rule i)) ∷ (codes "sender", Some (string (sender i))) ∷ (codes "state_key", option_map string (key i))
    ∷ (codes "type", Some (string (type i))) ∷ (codes "verdict", Some (string (name i))) ∷ (codes "version", Some (string (version i))) ∷ []) ++ codes "}\n")
    all
