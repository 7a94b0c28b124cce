use Rattle.std.proofs.Common.{◌++◌, ◌∷◌, [], Some, codes, option_map, refl, subst, ◌∙◌}
use Rattle.std.specs.Prelude.{string_bytes}
use Rattle.std.specs.Str.{chars}
use Rattle.serde_json.specs.Data.{number, string, unsigned}
use Rattle.mx_canon.specs.Canonical.{canonical_text}
use Rattle.mx_lines.proofs.LineLemmas.{line-written}
use Rattle.mx_lines.specs.Malformed.{fault_text, field_name, malformed_text}
use Rattle.mx_lines.specs.Written.{opened, with_members}
use Rattle.mx_lines.proofs.malformed_events.write_malformed.Goals as goal

pub returns : goal.returns
unfolding malformed_text canonical_text chars
returns g c = λ taken had.
    let m = c.args.malformed.now in
    let all = c.end_line.ensures _ (c.write_text_member-3.ensures _ (c.write_text_if-3.ensures _ (c.write_number_member.ensures _ (c.write_text_if-2.ensures _ (c.write_text_if.ensures _ (c.write_text_member-2.ensures _ (c.write_text_member.ensures _ (c.write_number.ensures _ (c.open_line.ensures taken had))))))))) in
    let fault = c.as_bytes.ensures.value ∙ c.text.ensures in
    let field = c.field_name.ensures in
    let origin = c.origin_of.ensures in
    let transaction = c.transaction_of.ensures in
    subst (g.S.TextSink.has_taken c.end_line.new.sink)
    ((λ i. with_members (opened taken (codes "after") ++ canonical_text (number (unsigned m.offering.after)))
    ((codes "because", Some (string (codes "malformed"))) ∷ (codes "fault", Some (string (fault i))) ∷ (codes "field", option_map string (field i))
    ∷ (codes "origin", option_map string (origin i)) ∷ (codes "position", Some (number (unsigned m.position))) ∷ (codes "transaction", option_map string (transaction i))
    ∷ (codes "verdict", Some (string (codes "refused"))) ∷ []) ++ codes "}\n")
    ∙ line-written taken (codes "after") (number (unsigned m.offering.after))
    ((codes "because", Some (string (codes "malformed"))) ∷ (codes "fault", Some (string (fault_text m.fault))) ∷ (codes "field", option_map string (option_map field_name m.field))
    ∷ (codes "origin", option_map string m.offering.origin) ∷ (codes "position", Some (number (unsigned m.position))) ∷ (codes "transaction", option_map string (option_map string_bytes m.offering.transaction))
    ∷ (codes "verdict", Some (string (codes "refused"))) ∷ []) refl)
    all
