use Rattle.std.proofs.Common.{sym, ap, ◌∙◌, subst}
use Rattle.mx_export.specs.ExportedEvents.{event_of, IsSound}
use Rattle.mx_export.proofs.exported_events.ExportedEventClone.clone.Goals as goal

pub invariant_of-result : goal.invariant_of-result
invariant_of-result c = subst IsSound (sym c.in_ok-parts.ensures) c.self.invariant

pub returns : goal.returns
returns c = record { cases = ap event_of c.in_ok-parts.ensures ∙ c.self.view_is }
