use Rattle.std.proofs.Common.{◌++◌, codes, decimal, sym, ap, subst, ◌∙◌, append_assoc}
use Rattle.std.specs.Str.{chars}
use Rattle.mx_canon.specs.Canonical.{canonical_text}
use Rattle.mx_page.specs.EntryTexts.{base_text}
use Rattle.mx_page.proofs.entry_texts.write_base.Goals as goal

pub returns-in-Some : goal.returns-in-Some
unfolding canonical_text chars
returns-in-Some g c = λ taken had.
    subst (g.S.TextSink.has_taken c.write_number.new.sink)
    (append_assoc taken (codes ",\"base\":") (decimal c.place_of.result) ∙ ap (λ n. taken ++ (codes ",\"base\":" ++ decimal n)) c.place_of.ensures
    ∙ ap (λ base. taken ++ base_text base) (sym c.in-Some.is))
    (c.write_number.ensures _ (c.put.ensures taken had))
