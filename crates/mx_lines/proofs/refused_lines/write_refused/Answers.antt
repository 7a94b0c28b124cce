use Rattle.std.proofs.Common.{◌++◌, codes, refl, subst, ◌∙◌}
use Rattle.std.specs.Str.{chars}
use Rattle.serde_json.specs.Data.{number, unsigned}
use Rattle.mx_canon.specs.Canonical.{canonical_text}
use Rattle.mx_pdu.specs.Event.{content_of}
use Rattle.mx_lines.specs.Contents.{content_members}
use Rattle.mx_lines.specs.RefusedLines.{head_written, refused_middle, refused_members, refused_tail, refused_text}
use Rattle.mx_lines.specs.Written.{with_members}
use Rattle.mx_lines.proofs.LineLemmas.{line-written}
use Rattle.mx_lines.proofs.refused_lines.write_refused.Goals as goal

pub returns : goal.returns
unfolding refused_text canonical_text chars
returns g c = λ taken had.
    let r = c.args.refused.now in
    let all = c.end_line.ensures _ (c.write_tail.ensures _ (c.write_middle.ensures _ (c.write_content.ensures (content_of r.event) _ c.requires (c.write_head.ensures taken had)))) in
    subst (g.S.TextSink.has_taken c.end_line.new.sink)
    ((λ i. with_members (with_members (with_members (head_written taken r) (content_members (c.is_state.ensures i) (content_of r.event))) (refused_middle r)) (refused_tail r) ++ codes "}\n")
    ∙ line-written taken (codes "after") (number (unsigned r.offering.after)) (refused_members r) refl)
    all
