use Rattle.serde_json.specs.View.{view}
use Rattle.mx_pdu.proofs.FormatLemmas.{object-is}
use Rattle.mx_export.proofs.event_fields.object_of.Goals as goal

pub unreachable-requires : goal.unreachable-requires
unreachable-requires c = object-is (view c.args.value.now) c.requires c.in-None.ensures
