use Rattle.std.proofs.Common.{◌∷◌, [], Some, codes, option_map, subst, ap, ◌∙◌}
use Rattle.std.specs.Str.{chars}
use Rattle.serde_json.specs.Data.{number, string, unsigned}
use Rattle.serde_json.specs.Find.{of_integer}
use Rattle.mx_pdu.specs.Event.{timestamp_of}
use Rattle.mx_lines.specs.Contents.{hash_text}
use Rattle.mx_lines.specs.RefusedLines.{some_ids}
use Rattle.mx_lines.specs.Written.{with_members}
use Rattle.mx_lines.proofs.refused_lines.write_middle.Goals as goal

pub returns : goal.returns
unfolding chars
returns g c = λ taken had.
    let all = c.write_time.ensures _ (c.write_text_if-2.ensures _ (c.write_missing.ensures _ (c.write_text_if.ensures _ (c.write_text_member-2.ensures _ (c.write_number_member.ensures _ (c.write_text_member.ensures taken had)))))) in
    let hash = c.as_bytes.ensures.value ∙ c.hash_name.ensures ∙ ap hash_text c.hash_holds.ensures in
    let depth = c.depth.ensures.depth in
    let id = c.as_bytes-2.ensures.value ∙ c.as_str.ensures.text in
    let membership = c.membership_told.ensures in
    let missing = c.deref.ensures.value in
    let origin = c.origin_of.ensures in
    subst (g.S.TextSink.has_taken c.write_time.new.sink)
    (λ i. with_members taken
    ((codes "content_hash", Some (string (hash i))) ∷ (codes "depth", Some (number (unsigned (depth i)))) ∷ (codes "event_id", Some (string (id i)))
    ∷ (codes "membership", option_map string (membership i)) ∷ (codes "missing", some_ids (missing i)) ∷ (codes "origin", option_map string (origin i))
    ∷ (codes "origin_server_ts", Some (number (of_integer (timestamp_of c.args.refused.now.event)))) ∷ []))
    all
