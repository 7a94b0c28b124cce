use Rattle.std.proofs.Common.{◌++◌, codes, subst, ap, ◌∙◌}
use Rattle.std.specs.Str.{chars}
use Rattle.mx_canon.specs.Pieces.{comma_if}
use Rattle.mx_page.specs.EntryTexts.{without_end}
use Rattle.mx_page.proofs.PieceLemmas.{three}
use Rattle.mx_page.proofs.data_parts.write_refused.Goals as goal

pub returns : goal.returns
unfolding chars
returns g c = λ taken had.
    subst (g.S.TextSink.has_taken c.put-2.new.self)
    (ap (λ text. ((taken ++ comma_if c.args.is_later) ++ text) ++ codes "\n") c.without_end.ensures
    ∙ three taken (comma_if c.args.is_later) (without_end c.args.line.now) (codes "\n"))
    (c.put-2.ensures _ (c.put.ensures _ (c.put_comma.ensures taken had)))
