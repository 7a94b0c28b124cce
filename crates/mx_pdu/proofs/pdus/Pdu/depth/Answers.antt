use Rattle.std.proofs.Common.{◌≤◌, sym, ap, ◌∙◌, subst}
use Rattle.std.specs.Arc.{arc_value}
use Rattle.mx_canon.specs.Canonical.{largest}
use Rattle.mx_pdu.specs.Inside.{event_of}
use Rattle.mx_pdu.specs.declared.pdus.Parts.{Parts}
use Rattle.mx_pdu.proofs.LimitLemmas.{depth-fits}
use Rattle.mx_pdu.proofs.pdus.Pdu.depth.Goals as goal

pub returns-clause-most : goal.returns-clause-most
returns-clause-most c =
    let e = ap (λ (p : Parts). p.depth) c.deref.ensures ∙ c.self.invariant.depth in
    subst (λ n. n ≤ largest) (sym e) (depth-fits (event_of (arc_value c.self.inside.parts)) c.self.invariant.well_formed)
