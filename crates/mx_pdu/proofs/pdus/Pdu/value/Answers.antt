use Rattle.std.proofs.Common.{ap, ◌∙◌}
use Rattle.std.specs.Arc.{arc_value}
use Rattle.std.specs.Prelude.{string_bytes}
use Rattle.serde_json.specs.Read.{read}
use Rattle.mx_pdu.specs.Inside.{event_of}
use Rattle.mx_pdu.specs.declared.pdus.Parts.{Parts}
use Rattle.mx_pdu.proofs.pdus.Pdu.value.Goals as goal

pub value_of-requires : goal.value_of-requires
value_of-requires c =
    let text = c.deref-2.ensures ∙ ap (λ (p : Parts). string_bytes p.text) c.deref.ensures in
    (event_of (arc_value c.self.inside.parts), ap read text ∙ c.self.invariant.reads)
