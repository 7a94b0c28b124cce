use Rattle.std.proofs.Common.{◌≡◌, sym, ap, ◌∙◌}
use Rattle.serde_json.specs.View.{view}
use Rattle.mx_canon.specs.Canonical.{canonical_text}
use Rattle.mx_redact.specs.Hashes.{content_hash, event_id}
use Rattle.mx_pdu.proofs.FormatLemmas.{formed-from-none}
use Rattle.mx_export.proofs.exported_events.ExportedEvent.with_digests.Goals as goal

pub object_of-requires : goal.object_of-requires
object_of-requires c = formed-from-none (view c.args.value.now) (sym c.in_ok-text.ensures.format)

pub object_of-requires-2 : goal.object_of-requires-2
object_of-requires-2 c = formed-from-none (view c.args.value.now) (sym c.in_ok-text.ensures.format)

pub of_checked-requires-clause-well_formed : goal.of_checked-requires-clause-well_formed
of_checked-requires-clause-well_formed c = formed-from-none (view c.args.value.now) (sym c.in_ok-text.ensures.format)

pub of_checked-requires-clause-id : goal.of_checked-requires-clause-id
of_checked-requires-clause-id c = c.in_ok-id.ensures ∙ ap event_id c.object_of-2.ensures

pub returns-clause-hash : goal.returns-clause-hash
returns-clause-hash c = c.in_ok-digests.ensures.content ∙ ap content_hash c.object_of.ensures
