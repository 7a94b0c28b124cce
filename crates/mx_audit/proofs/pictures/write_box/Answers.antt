use Rattle.std.proofs.Common.{◌++◌, codes, decimal, subst, ap, ◌∙◌, if◌then◌else◌, []}
use Rattle.std.specs.Str.{chars}
use Rattle.mx_canon.specs.Canonical.{canonical_text}
use Rattle.mx_redact.specs.Fields.{kind as kind_of}
use Rattle.mx_pdu.specs.Event.{sender_of}
use Rattle.mx_graph.specs.Record.{Row, event, is_in, row}
use Rattle.mx_receipt.specs.Receipt.{forward_extremities, kept_at, rows_of}
use Rattle.mx_audit.specs.Pictures.{beginning, label}
use Rattle.mx_audit.specs.Reasons.{colour_text}
use Rattle.mx_lines.proofs.WalkLemmas.{thirteen}
use Rattle.mx_audit.proofs.pictures.write_box.Goals as goal

pub returns : goal.returns
unfolding chars canonical_text
returns g c = λ taken had.
    let all = c.put-8.ensures _ (c.write_border.ensures _ (c.put-7.ensures _ (c.put-6.ensures _ (c.put-5.ensures _ (c.write_label-3.ensures _ (c.put-4.ensures _ (c.write_label-2.ensures _ (c.put-3.ensures _ (c.write_label.ensures _ (c.put-2.ensures _ (c.write_number.ensures _ (c.put.ensures taken had)))))))))))) in
    let kept = c.args.timeline.now.kept in
    let e = event (rows_of kept) c.args.number in
    let is_row = c.row-row.ensures in
    let number = c.index.ensures.index in
    let kind = c.as_bytes.ensures.value ∙ c.kind.ensures ∙ ap (λ (r : Row). kind_of r.event) is_row in
    let sender = c.as_bytes-2.ensures.value ∙ c.as_str.ensures.text ∙ c.sender.ensures ∙ ap (λ (r : Row). sender_of r.event) is_row in
    let id = c.beginning_of.ensures ∙ ap beginning (c.as_bytes-3.ensures.value ∙ c.as_str-2.ensures.text ∙ ap (λ (r : Row). r.id) is_row) in
    let colour = c.as_bytes-4.ensures.value ∙ c.colour_of.ensures ∙ ap colour_text c.verdict.ensures in
    let border = c.is_extremity.ensures in
    subst (g.S.TextSink.has_taken c.put-8.new.self)
    ((λ i. ((((((((((((taken ++ codes "  e") ++ decimal (number i)) ++ codes " [label=\"") ++ label (kind i)) ++ codes "\\n") ++ label (sender i)) ++ codes "\\n") ++ label (id i)) ++ codes "\", fillcolor=\"") ++ colour i) ++ codes "\"") ++ (if border i then codes ", peripheries=2" else [])) ++ codes "];\n") ∙ thirteen taken (codes "  e") (decimal c.args.number) (codes " [label=\"") (label (kind_of e)) (codes "\\n") (label (sender_of e)) (codes "\\n") (label (beginning (row (rows_of kept) c.args.number).id)) (codes "\", fillcolor=\"")
    (colour_text (kept_at kept c.args.number).verdict) (codes "\"") (if is_in (forward_extremities kept) c.args.number then codes ", peripheries=2" else []) (codes "];\n"))
    all
