use Rattle.std.proofs.Common.{◌++◌, ◌∷◌, Option, Some, codes, option_map, refl, subst, ap, ◌∙◌}
use Rattle.std.specs.Str.{chars}
use Rattle.serde_json.specs.Data.{string}
use Rattle.mx_pdu.specs.Event.{auth_ids, content_of, is_state}
use Rattle.mx_graph.specs.Record.{Row, event, row}
use Rattle.mx_receipt.specs.Receipt.{kept_at, rows_of, version_in}
use Rattle.mx_lines.proofs.LineLemmas.{line-written}
use Rattle.mx_lines.specs.Contents.{content_members}
use Rattle.mx_lines.specs.Lines.{text_array}
use Rattle.mx_lines.specs.Written.{with_member, with_members}
use Rattle.mx_audit.specs.EventLines.{because_told, failed_text, head_members, judged_by, judged_event, middle_members, place_members, redacted_by, standing_members, tail_members}
use Rattle.mx_audit.specs.Told.{Told, told_shown}
use Rattle.mx_audit.specs.Written.{head_written}
use Rattle.mx_audit.proofs.event_lines.write_event_line.Goals as goal

pub returns : goal.returns
unfolding chars
returns g c = λ taken had.
    let kept = c.args.timeline.now.kept in
    let p = c.args.number in
    let told : Option Told = option_map (λ e. told_shown e.now) c.args.explanation in
    let j = judged_event kept p told in
    let e = event (rows_of kept) p in
    let r = row (rows_of kept) p in
    let v = (kept_at kept p).verdict in
    let is_row = c.row-row.ensures in
    let content = c.deref.ensures.value ∙ c.requires.parts.content in
    let all = c.write_tail.ensures _ (c.write_place.ensures _ (c.write_judged.ensures _ (c.write_key.ensures _ (c.write_standing.ensures _ (c.write_middle.ensures _ (c.write_content.ensures (content_of e) _ content (c.write_head.ensures taken had))))))) in
    let stateful = c.is_state.ensures ∙ ap (λ (r : Row). is_state r.event) is_row in
    let redactions = c.deref-2.ensures.value ∙ c.requires.parts.redactions in
    let because = c.requires.parts.because in
    let is_failed = c.failed_name.ensures in
    subst (g.S.TextSink.has_taken c.write_tail.new.sink)
    ((λ i. with_members (with_members (with_member (with_members (with_members (with_members
    (head_written taken (is_row i).event (because i) (is_failed i))
    (content_members (stateful i) (content_of e)))
    (middle_members (is_row i).event (is_row i).id))
    (standing_members kept p))
    (codes "judged_by", Some (judged_by kept j told)))
    (place_members (is_row i).event p (redactions i)))
    (tail_members e v (version_in (rows_of kept))) ++ codes "}\n")
    ∙ line-written taken (codes "auth_events") (text_array (auth_ids e))
    (head_members (because_told j v) (failed_text told) ++ (content_members (is_state e) (content_of e) ++ (middle_members e r.id ++ (standing_members kept p
    ++ ((codes "judged_by", Some (judged_by kept j told)) ∷ (place_members e p (redacted_by kept r.id) ++ tail_members e v (version_in (rows_of kept)))))))) refl)
    all
