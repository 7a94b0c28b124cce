use Rattle.std.proofs.Common.{◌++◌, codes, subst, ap, ◌∙◌}
use Rattle.std.specs.Str.{chars}
use Rattle.mx_canon.specs.Canonical.{string_text}
use Rattle.mx_page.proofs.PieceLemmas.{three}
use Rattle.mx_page.proofs.data_parts.write_start.Goals as goal

pub returns : goal.returns
unfolding chars
returns g c = λ taken had.
    subst (g.S.TextSink.has_taken c.put-2.new.self)
    (ap (λ id. ((taken ++ codes "{\"room\":") ++ string_text id) ++ codes ",\"events\":[") (c.as_bytes.ensures.value ∙ c.as_str.ensures.text)
    ∙ three taken (codes "{\"room\":") (string_text c.args.room.now) (codes ",\"events\":["))
    (c.put-2.ensures _ (c.write_string.ensures _ (c.put.ensures taken had)))
