use Rattle.std.proofs.Common.{◌++◌, ◌∷◌, [], subst, ◌∙◌}
use Rattle.std.specs.Str.{chars}
use Rattle.mx_canon.specs.Canonical.{string_text, value_text}
use Rattle.mx_page.specs.EntryTexts.{place_data}
use Rattle.mx_page.proofs.PieceLemmas.{array-of-three}
use Rattle.mx_page.proofs.change_texts.write_change.Goals as goal

pub returns : goal.returns
unfolding chars
returns g c = λ taken had.
    let x = c.args.change.now in
    let kind = c.as_bytes.ensures.value ∙ c.kind.ensures in
    let key = c.as_bytes-2.ensures.value ∙ c.state_key.ensures in
    let event = c.event.ensures in
    subst (g.S.TextSink.has_taken c.put-4.new.self)
    ((λ i. ((((((taken ++ 91 ∷ []) ++ string_text (kind i)) ++ 44 ∷ []) ++ string_text (key i)) ++ 44 ∷ []) ++ value_text (place_data (event i))) ++ 93 ∷ [])
    ∙ array-of-three taken (string_text x.0.0) (string_text x.0.1) (value_text (place_data x.1)))
    (c.put-4.ensures _ (c.write_place.ensures _ (c.put-3.ensures _ (c.write_string-2.ensures _ (c.put-2.ensures _ (c.write_string.ensures _ (c.put.ensures taken had)))))))
