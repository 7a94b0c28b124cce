use Rattle.std.proofs.Common.{◌∷◌, [], Some, codes, option_map, subst, ◌∙◌}
use Rattle.std.specs.Str.{chars}
use Rattle.serde_json.specs.Data.{string}
use Rattle.mx_lines.specs.Lines.{text_array}
use Rattle.mx_lines.specs.Written.{with_members}
use Rattle.mx_lines.proofs.refused_lines.write_tail.Goals as goal

pub returns : goal.returns
unfolding chars
returns g c = λ taken had.
    let all = c.write_text_member-3.ensures _ (c.write_text_member-2.ensures _ (c.write_text_if-2.ensures _ (c.write_text_if.ensures _ (c.write_text_member.ensures _ (c.write_ids_member.ensures taken had))))) in
    let prev = c.prev_events.ensures.ids in
    let sender = c.as_bytes.ensures.value ∙ c.as_str.ensures.text ∙ c.sender.ensures in
    let key = c.state_key.ensures in
    let transaction = c.transaction_of.ensures in
    let kind = c.as_bytes-2.ensures.value ∙ c.kind.ensures in
    subst (g.S.TextSink.has_taken c.write_text_member-3.new.sink)
    (λ i. with_members taken
    ((codes "prev_events", Some (text_array (prev i))) ∷ (codes "sender", Some (string (sender i))) ∷ (codes "state_key", option_map string (key i))
    ∷ (codes "transaction", option_map string (transaction i)) ∷ (codes "type", Some (string (kind i))) ∷ (codes "verdict", Some (string (codes "refused"))) ∷ []))
    all
