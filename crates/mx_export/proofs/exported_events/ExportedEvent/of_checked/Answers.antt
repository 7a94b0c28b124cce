use Rattle.std.proofs.Common.{IsTrue, sym, ap, ◌∙◌, Some, subst}
use Rattle.serde_json.specs.Data.{Data}
use Rattle.mx_canon.specs.Canonical.{canonical_text}
use Rattle.mx_redact.specs.Hashes.{event_id}
use Rattle.mx_pdu.specs.Format.{is_well_formed}
use Rattle.mx_export.specs.ExportedEvents.{event_of, IsSound}
use Rattle.mx_export.proofs.exported_events.ExportedEvent.of_checked.Goals as goal

pub of-requires-clause-well_formed : goal.of-requires-clause-well_formed
of-requires-clause-well_formed c = subst (λ (d : Data). IsTrue (is_well_formed d)) (sym c.object_of.ensures) c.requires.well_formed

pub of-requires-clause-text : goal.of-requires-clause-text
of-requires-clause-text c = c.requires.text ∙ ap canonical_text (sym c.object_of.ensures)

pub of-requires-clause-reads : goal.of-requires-clause-reads
of-requires-clause-reads c = c.requires.reads ∙ ap Some (sym c.object_of.ensures)

pub of-requires-clause-id : goal.of-requires-clause-id
of-requires-clause-id c = c.requires.id ∙ ap event_id (sym c.object_of.ensures)

pub invariant_of-result : goal.invariant_of-result
invariant_of-result c = subst IsSound (sym c.in_ok-parts.ensures.ok) c.in_ok-whole.ensures.sound
