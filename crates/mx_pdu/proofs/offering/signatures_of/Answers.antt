use Rattle.std.proofs.Common.{sym, lit<}
use Rattle.std.specs.Prelude.{codes}
use Rattle.serde_json.specs.Data.{object}
use Rattle.serde_json.specs.View.{members_view}
use Rattle.mx_redact.specs.Fields.{field}
use Rattle.mx_pdu.proofs.FormatLemmas.{object-there, required-at}
use Rattle.mx_pdu.proofs.offering.signatures_of.Goals as goal

pub unreachable-requires : goal.unreachable-requires
unreachable-requires c =
    object-there (field (codes "signatures") (object (members_view c.args.fields.now.members.now.entries))) (required-at _ 8 c.requires (lit< tt)) (sym c.in-None.ensures)
