use Rattle.serde_json.specs.View.{members_view}
use Rattle.mx_redact.proofs.SelectedLemmas.{fault-signed_part}
use Rattle.mx_redact.proofs.parts.fault_in_signed.Goals as goal

pub returns : goal.returns
returns c = fault-signed_part (members_view c.args.event.now.entries) c.kept_content_in.result c.fault_in.result c.kept_content_in.ensures c.fault_in.ensures
