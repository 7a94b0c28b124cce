use Rattle.std.proofs.Common.{◌∷◌, [], ◌++◌, length, ◌∙◌}
use Rattle.serde_json.specs.View.{view}
use Rattle.mx_canon.specs.Canonical.{canonical_text}
use Rattle.mx_pdu.proofs.CompareLemmas.{ended_same, ended_other, rest-tells, begun}
use Rattle.mx_pdu.proofs.comparing.is_text_of.Goals as goal

pub returns-then-comparison : goal.returns-then-comparison
returns-then-comparison c =
    let text = canonical_text (view c.args.value.now) in
    let end = c.write_text.ensures (length c.args.text.now ∷ (c.args.text.now ++ [])) (begun c.args.text) in
    c.is_empty.ensures ∙ rest-tells text c.write_text.new.sink.rest.now c.args.text.now (ended_same c.write_text.new.sink c.args.text.now text end c.if-comparison.true)

pub returns-else-comparison : goal.returns-else-comparison
returns-else-comparison c =
    let text = canonical_text (view c.args.value.now) in
    let end = c.write_text.ensures (length c.args.text.now ∷ (c.args.text.now ++ [])) (begun c.args.text) in
    c.if-comparison.false ∙ ended_other c.write_text.new.sink c.args.text.now text end c.if-comparison.false
