use Rattle.std.proofs.Common.{◌++◌, codes, ap, subst, ◌∙◌}
use Rattle.std.specs.Prelude.{flat_map}
use Rattle.log.specs.Level.{level_name}
use Rattle.mx_records.specs.Members.{plain_member}
use Rattle.mx_records.specs.Records.{kind_text, level_of, subject_members}
use Rattle.mx_records.proofs.LineLemmas.{seven}
use Rattle.mx_records.proofs.lines.write_plain.Goals as goal

pub returns : goal.returns
returns g c = λ taken shown had.
    let s = c.args.subject.now in
    let all = c.put-6.ensures _ (c.write_plain_members.ensures _ (c.put-5.ensures _ (c.put-4.ensures _ (c.put-3.ensures _ (c.put-2.ensures _ (c.put.ensures taken had)))))) in
    let moment = c.as_bytes.ensures.value in
    let level = c.as_bytes-2.ensures.value ∙ c.as_str.ensures ∙ ap level_name c.level.ensures in
    let kind = c.as_bytes-3.ensures.value ∙ c.kind.ensures in
    subst (g.S.TextSink.has_taken c.put-6.new.self)
    ((λ i. ((((((taken ++ moment i) ++ codes " ") ++ level i) ++ codes " ") ++ kind i) ++ flat_map plain_member (shown i)) ++ codes "\n")
    ∙ seven taken c.args.moment.now (codes " ") (level_name (level_of s)) (codes " ") (kind_text s) (flat_map plain_member (subject_members s)) (codes "\n"))
    all
