use Rattle.std.proofs.Common.{◌++◌, codes, ap, subst, ◌∙◌}
use Rattle.std.specs.Prelude.{flat_map}
use Rattle.log.specs.Level.{level_name}
use Rattle.serde_json.specs.Data.{number, unsigned}
use Rattle.mx_canon.specs.Canonical.{canonical_text}
use Rattle.mx_records.specs.Members.{json_member, text_at}
use Rattle.mx_records.specs.Records.{kind_text, level_of, subject_members}
use Rattle.mx_records.proofs.LineLemmas.{six}
use Rattle.mx_records.proofs.lines.write_json.Goals as goal

pub returns : goal.returns
returns g c = λ taken shown had.
    let s = c.args.subject.now in
    let all = c.put-2.ensures _ (c.write_json_members.ensures _ (c.write_json_member-2.ensures _ (c.write_json_member.ensures _ (c.write_number.ensures _ (c.put.ensures taken had))))) in
    let level = c.text.ensures ∙ ap (λ t. text_at (codes "level") t) (c.as_str.ensures ∙ ap level_name c.level.ensures) in
    let kind = c.text-2.ensures ∙ ap (λ t. text_at (codes "kind") t) c.kind.ensures in
    let n = canonical_text (number (unsigned c.args.at)) in
    subst (g.S.TextSink.has_taken c.put-2.new.self)
    ((λ i. (((((taken ++ codes "{\"at\":") ++ n) ++ json_member (level i)) ++ json_member (kind i)) ++ flat_map json_member (shown i)) ++ codes "}\n")
    ∙ six taken (codes "{\"at\":") n (json_member (text_at (codes "level") (level_name (level_of s)))) (json_member (text_at (codes "kind") (kind_text s))) (flat_map json_member (subject_members s)) (codes "}\n"))
    all
