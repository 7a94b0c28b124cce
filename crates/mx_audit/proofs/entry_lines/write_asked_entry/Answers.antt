use Rattle.std.proofs.Common.{◌++◌, ◌∷◌, [], Some, codes, refl, subst, ap, ◌∙◌}
use Rattle.std.specs.Str.{chars}
use Rattle.serde_json.specs.Data.{string}
use Rattle.mx_canon.specs.Canonical.{value_text}
use Rattle.mx_pdu.specs.StateKeys.{Key}
use Rattle.mx_lines.proofs.LineLemmas.{object-written}
use Rattle.mx_lines.specs.Lines.{text_or_null}
use Rattle.mx_lines.specs.Written.{opened, with_members}
use Rattle.mx_reasons.specs.Facts.{fact_members}
use Rattle.mx_audit.specs.EventLines.{id_of, standing}
use Rattle.mx_audit.specs.Written.{rest_written}
use Rattle.mx_audit.proofs.entry_lines.write_asked_entry.Goals as goal

pub returns : goal.returns
unfolding chars
returns g c = λ taken had.
    let kept = c.args.timeline.now.kept in
    let j = c.args.judged.now in
    let all = c.write_rest.ensures _ (c.write_facts.ensures _ (c.write_id.ensures _ (c.open_line.ensures taken had))) in
    let kind = c.kind.ensures in
    let kind-2 = c.kind-2.ensures in
    let key = c.state_key.ensures in
    let id = c.id_at.ensures ∙ ap (id_of kept) c.event.ensures in
    let stands = c.standing_event.ensures ∙ ap (standing kept) c.event-2.ensures in
    let e = c.args.entry.now in
    subst (g.S.TextSink.has_taken c.write_rest.new.sink)
    ((λ i. rest_written (with_members (opened taken (codes "event_id") ++ value_text (text_or_null (id i))) (fact_members j (kind i) (stands i))) (kind-2 i, key i))
    ∙ object-written taken (codes "event_id") (text_or_null (id_of kept e.1))
    (fact_members j e.0.0 (standing kept e.1) ++ ((codes "state_key", Some (string e.0.1)) ∷ (codes "type", Some (string e.0.0)) ∷ [])) refl)
    all
