-- For private clauses alone.
-- What of the line of an event is made before it is written.
use Rattle.std.specs.Prelude.{◌≡◌, ℕ, List, Option, option_map}
use Rattle.mx_canon.specs.Canonical.{canonical_text}
use Rattle.mx_pdu.specs.Event.{content_of}
use Rattle.mx_graph.specs.Record.{event, row}
use Rattle.mx_receipt.specs.Receipt.{Kept, kept_at, rows_of}
use Rattle.mx_audit.specs.EventLines.{because_told, judged_event, redacted_by}
use Rattle.mx_audit.specs.Told.{Told}
use Rattle.mx_audit.specs.declared.event_lines.LineParts.{LineParts}

pub record AreParts (kept : List Kept) (p : ℕ) (t : Option Told) (parts : LineParts) : Type 0 where
  pub redactions : parts.redactions.items ≡ redacted_by kept (row (rows_of kept) p).id
  pub content : parts.content.items ≡ canonical_text (content_of (event (rows_of kept) p))
  pub because : option_map (λ t. t.items) parts.because ≡ because_told (judged_event kept p t) (kept_at kept p).verdict
