use Rattle.std.proofs.Common.{IsTrue, subst}
use Rattle.std.specs.Arc.{arc_value}
use Rattle.mx_canon.specs.KeyOrder.{KeysRise}
use Rattle.mx_pdu.specs.Format.{has_readable_nesting}
use Rattle.mx_pdu.specs.Inside.{event_of}
use Rattle.mx_pdu.proofs.FormatLemmas.{nesting-fits}
use Rattle.mx_pdu.proofs.pdus.Pdu.text.Goals as goal

pub returns-clause-nesting : goal.returns-clause-nesting
returns-clause-nesting c =
    subst (λ event. IsTrue (has_readable_nesting event)) c.self.view_is
    (nesting-fits (event_of (arc_value c.self.inside.parts)) c.self.invariant.well_formed)

pub returns-clause-keys : goal.returns-clause-keys
returns-clause-keys c = subst KeysRise c.self.view_is c.self.invariant.rise
