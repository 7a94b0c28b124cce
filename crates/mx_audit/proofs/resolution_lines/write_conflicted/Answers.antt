use Rattle.std.proofs.Common.{◌++◌, ◌∷◌, [], Some, codes, refl, subst, ap, ◌∙◌, append_assoc}
use Rattle.std.specs.Str.{chars}
use Rattle.serde_json.specs.Data.{number, string, unsigned}
use Rattle.mx_canon.specs.Canonical.{canonical_text, value_text}
use Rattle.mx_audit.specs.EventLines.{entry_members, id_of}
use Rattle.mx_lines.specs.Lines.{text_or_null}
use Rattle.mx_lines.specs.Written.{opened, with_members}
use Rattle.mx_lines.proofs.LineLemmas.{line-written}
use Rattle.mx_audit.proofs.resolution_lines.write_conflicted.Goals as goal

pub returns : goal.returns
unfolding chars canonical_text
returns g c = λ taken had.
    let kept = c.args.timeline.now.kept in
    let e = c.args.entry.now in
    let all = c.put.ensures _ (c.write_rest.ensures _ (c.write_id.ensures _ (c.write_key.ensures _ (c.write_number.ensures _ (c.open_line.ensures taken had))))) in
    let event = c.event.ensures in
    let id = c.id_at.ensures ∙ ap (λ n. id_of kept (Some n)) event in
    let kind = c.kind.ensures in
    let key = c.state_key.ensures in
    let first = number (unsigned c.args.place) in
    subst (g.S.TextSink.has_taken c.put.new.self)
    ((λ i. (with_members (opened taken (codes "conflicted") ++ value_text first)
    ((codes "event_id", Some (text_or_null (id i))) ∷ (codes "state_key", Some (string (key i))) ∷ (codes "type", Some (string (kind i))) ∷ []) ++ codes "}") ++ codes "\n")
    ∙ append_assoc (with_members (opened taken (codes "conflicted") ++ value_text first) (entry_members kept e.0 (Some e.1))) (codes "}") (codes "\n")
    ∙ line-written taken (codes "conflicted") first (entry_members kept e.0 (Some e.1)) refl)
    all
