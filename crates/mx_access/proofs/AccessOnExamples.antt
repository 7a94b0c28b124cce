-- What an example unfolds to compute.
use Rattle.std.specs.Prelude.{⊤}
use Rattle.std.specs.Str.{chars}
use Rattle.mx_redact.specs.Redaction.{redact}
use Rattle.mx_levels.specs.Level.{redact_level}
use Rattle.mx_receipt.proofs.ReceiptOnExamples.{receipt_on_examples}
use Rattle.mx_access.specs.Acl.{content_allows, acl_allows}
use Rattle.mx_access.specs.Access.{in_room, visible, is_redacted, served, shown}

unfoldable pub access_on_examples : ⊤
unfolding receipt_on_examples redact_level chars redact content_allows acl_allows in_room visible is_redacted served shown
access_on_examples = tt
