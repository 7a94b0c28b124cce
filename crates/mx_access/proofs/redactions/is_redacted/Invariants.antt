use Rattle.std.proofs.Common.{◌≡◌, drop}
use Rattle.std.specs.List.{list_any}
use Rattle.mx_access.proofs.RedactionLemmas.{takes_effect}
use Rattle.mx_access.proofs.redactions.is_redacted.Given as goal

abbrev pub invariant-loop-redaction : goal.invariant-loop-redaction
invariant-loop-redaction l =
    list_any (takes_effect l.timeline.kept l.number) (drop l.redaction-index l.redactions) ≡ list_any (takes_effect l.timeline.kept l.number) l.redactions
