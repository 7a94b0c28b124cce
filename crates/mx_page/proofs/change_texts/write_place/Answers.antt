use Rattle.std.proofs.Common.{◌++◌, sym, subst}
use Rattle.mx_canon.specs.Canonical.{canonical_text, value_text}
use Rattle.mx_page.specs.EntryTexts.{place_data}
use Rattle.serde_json.specs.Data.{number, unsigned}
use Rattle.mx_page.proofs.change_texts.write_place.Goals as goal

pub returns-in-Some : goal.returns-in-Some
unfolding canonical_text
returns-in-Some g c = λ taken had.
    subst (λ event. g.S.TextSink.has_taken c.write_number.new.sink (taken ++ value_text (place_data event))) (sym c.in-Some.is)
    (subst (λ n. g.S.TextSink.has_taken c.write_number.new.sink (taken ++ value_text (number (unsigned n)))) c.place_of.ensures (c.write_number.ensures taken had))
