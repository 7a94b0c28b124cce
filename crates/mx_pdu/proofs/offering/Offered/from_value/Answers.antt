use Rattle.std.proofs.Common.{IsTrue, sym, subst}
use Rattle.serde_json.specs.Data.{Data}
use Rattle.serde_json.specs.View.{view}
use Rattle.mx_pdu.specs.Format.{is_well_formed}
use Rattle.mx_pdu.proofs.FormatLemmas.{formed-from-none}
use Rattle.mx_pdu.proofs.offering.Offered.from_value.Goals as goal

pub text_of-requires-clause-well_formed : goal.text_of-requires-clause-well_formed
text_of-requires-clause-well_formed g c = formed-from-none (view c.args.value) c.in_ok-fields.ensures.answer

pub of_checked-requires-clause-well_formed : goal.of_checked-requires-clause-well_formed
of_checked-requires-clause-well_formed g c =
    subst (λ (d : Data). IsTrue (is_well_formed d)) (sym c.in_ok-fields.ensures.fields) (formed-from-none (view c.args.value) c.in_ok-fields.ensures.answer)
