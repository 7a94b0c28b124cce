use Rattle.std.proofs.Common.{IsTrue, Some, sym, ap, ◌∙◌, subst}
use Rattle.serde_json.specs.Data.{Data, depth}
use Rattle.serde_json.specs.Read.{max_depth}
use Rattle.serde_json.specs.View.{view}
use Rattle.mx_pdu.specs.Format.{is_well_formed}
use Rattle.mx_pdu.proofs.FormatLemmas.{formed-from-none, nesting-fits}
use Rattle.mx_pdu.proofs.TextLemmas.{low-enough}
use Rattle.mx_pdu.proofs.pdus.Pdu.from_canonical.Goals as goal

pub of_checked-requires-clause-well_formed : goal.of_checked-requires-clause-well_formed
of_checked-requires-clause-well_formed c =
    subst (λ (d : Data). IsTrue (is_well_formed d)) (sym c.in_ok-fields.ensures.fields) (formed-from-none (view c.args.value) c.in_ok-fields.ensures.answer)

pub of_checked-requires-clause-reads : goal.of_checked-requires-clause-reads
of_checked-requires-clause-reads c =
    let event = view c.args.value in
    let low = low-enough (depth event) max_depth (nesting-fits event (formed-from-none event c.in_ok-fields.ensures.answer)) in
    c.requires.reads low ∙ ap Some (sym c.in_ok-fields.ensures.fields)
