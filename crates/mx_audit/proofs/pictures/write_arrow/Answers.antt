use Rattle.std.proofs.Common.{◌++◌, codes, decimal, subst, ◌∙◌}
use Rattle.std.specs.Str.{chars}
use Rattle.mx_canon.specs.Canonical.{canonical_text}
use Rattle.mx_lines.proofs.WalkLemmas.{five}
use Rattle.mx_audit.proofs.pictures.write_arrow.Goals as goal

pub returns : goal.returns
unfolding chars canonical_text
returns g c = λ taken had.
    let all = c.put-3.ensures _ (c.write_number-2.ensures _ (c.put-2.ensures _ (c.write_number.ensures _ (c.put.ensures taken had)))) in
    let from = c.index.ensures.index in
    let to = c.index-2.ensures.index in
    subst (g.S.TextSink.has_taken c.put-3.new.self)
    ((λ i. (((taken ++ codes "  e") ++ decimal (from i)) ++ codes " -> e") ++ decimal (to i) ++ codes ";\n") ∙ five taken (codes "  e") (decimal c.args.from) (codes " -> e") (decimal c.args.to) (codes ";\n"))
    all
