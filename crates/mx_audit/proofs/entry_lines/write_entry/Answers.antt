use Rattle.std.proofs.Common.{◌++◌, ◌∷◌, [], Some, codes, refl, subst, ◌∙◌}
use Rattle.std.specs.Str.{chars}
use Rattle.serde_json.specs.Data.{string}
use Rattle.mx_canon.specs.Canonical.{value_text}
use Rattle.mx_pdu.specs.StateKeys.{Key}
use Rattle.mx_audit.specs.EventLines.{id_of}
use Rattle.mx_lines.specs.Lines.{text_or_null}
use Rattle.mx_lines.specs.Written.{opened}
use Rattle.mx_audit.specs.Written.{rest_written}
use Rattle.mx_lines.proofs.LineLemmas.{object-written}
use Rattle.mx_audit.proofs.entry_lines.write_entry.Goals as goal

pub returns : goal.returns
unfolding chars
returns g c = λ taken had.
    let all = c.write_rest.ensures _ (c.write_id.ensures _ (c.open_line.ensures taken had)) in
    let id = c.id_at.ensures in
    let key : Key = (c.args.kind.now, c.args.state_key.now) in
    subst (g.S.TextSink.has_taken c.write_rest.new.sink)
    ((λ i. rest_written (opened taken (codes "event_id") ++ value_text (text_or_null (id i))) key)
    ∙ object-written taken (codes "event_id") (text_or_null (id_of c.args.timeline.now.kept c.args.event))
    ((codes "state_key", Some (string key.1)) ∷ (codes "type", Some (string key.0)) ∷ []) refl)
    all
