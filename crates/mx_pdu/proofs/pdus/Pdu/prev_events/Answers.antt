use Rattle.std.proofs.Common.{◌≤◌, length, sym, ap, ◌∙◌, subst}
use Rattle.std.specs.Arc.{arc_value}
use Rattle.mx_pdu.specs.Inside.{event_of}
use Rattle.mx_pdu.specs.declared.pdus.Parts.{Parts}
use Rattle.mx_pdu.proofs.LimitLemmas.{few-prev}
use Rattle.mx_pdu.proofs.pdus.Pdu.prev_events.Goals as goal

pub returns-clause-most : goal.returns-clause-most
returns-clause-most c =
    let e = c.deref-2.ensures.value ∙ ap (λ (p : Parts). p.prev_events.items) c.deref.ensures ∙ c.self.invariant.prev in
    subst (λ ids. length ids ≤ 20) (sym e) (few-prev (event_of (arc_value c.self.inside.parts)) c.self.invariant.well_formed)
