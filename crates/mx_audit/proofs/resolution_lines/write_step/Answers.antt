use Rattle.std.proofs.Common.{◌≡◌, ◌++◌, ◌∷◌, [], Some, codes, option_map, refl, sym, subst, ap, not, ◌∙◌}
use Rattle.std.specs.Prelude.{is_none}
use Rattle.std.specs.Str.{chars}
use Rattle.serde_json.specs.Data.{boolean, string}
use Rattle.mx_canon.specs.Canonical.{value_text}
use Rattle.mx_auth.specs.Rules.{label_text}
use Rattle.mx_audit.specs.EventLines.{id_of}
use Rattle.mx_reasons.specs.Reasons.{reason_text}
use Rattle.mx_lines.specs.Lines.{text_or_null}
use Rattle.mx_lines.specs.Written.{opened, with_members}
use Rattle.mx_lines.proofs.LineLemmas.{line-written}
use Rattle.mx_lines.proofs.WalkLemmas.{twice}
use Rattle.mx_audit.proofs.resolution_lines.write_step.Goals as goal

pub returns : goal.returns
unfolding chars
returns g c = λ taken had.
    let step = c.args.step in
    let all = c.end_line.ensures _ (c.write_text_if-2.ensures _ (c.write_string.ensures _ (c.write_key-2.ensures _ (c.write_id.ensures _ (c.write_key.ensures _ (c.write_text_if.ensures _ (c.write_flag.ensures _ (c.open_line.ensures taken had)))))))) in
    let none : c.is_none.result ≡ is_none step.refusal = sym (ap not c.is_none.ensures ∙ twice c.is_none.result) in
    let because = c.sentence_of.ensures in
    let id = c.id_at.ensures in
    let order = c.as_bytes.ensures.value in
    let rule = c.label_of.ensures in
    subst (g.S.TextSink.has_taken c.end_line.new.sink)
    ((λ i. with_members (opened taken (codes "allowed") ++ value_text (boolean (none i)))
    ((codes "because", option_map string (because i)) ∷ (codes "event_id", Some (text_or_null (id i))) ∷ (codes "order", Some (string (order i))) ∷ (codes "rule", option_map string (rule i)) ∷ []) ++ codes "}\n")
    ∙ line-written taken (codes "allowed") (boolean (is_none step.refusal))
    ((codes "because", option_map string (option_map reason_text step.refusal)) ∷ (codes "event_id", Some (text_or_null (id_of c.args.timeline.now.kept (Some step.event)))) ∷ (codes "order", Some (string c.args.order.now)) ∷ (codes "rule", option_map string (option_map label_text step.refusal)) ∷ []) refl)
    all
