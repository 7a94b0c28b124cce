use Rattle.std.proofs.Common.{IsTrue, rules, sym, ap, ◌∙◌, subst}
use Rattle.std.specs.Arc.{arc_value}
use Rattle.mx_canon.specs.Canonical.{in_range}
use Rattle.mx_pdu.specs.Inside.{event_of}
use Rattle.mx_pdu.specs.declared.pdus.Parts.{Parts}
use Rattle.mx_pdu.proofs.LimitLemmas.{timestamp-fits}
use Rattle.mx_pdu.proofs.pdus.Pdu.origin_server_ts.Goals as goal

pub returns-clause-range : goal.returns-clause-range
returns-clause-range c =
    let e = ap (λ (p : Parts). p.origin_server_ts) c.deref.ensures ∙ c.self.invariant.timestamp in
    let fits = subst (λ z. IsTrue (in_range z)) (sym e) (timestamp-fits (event_of (arc_value c.self.inside.parts)) c.self.invariant.well_formed) in
    search (rules, fits)
