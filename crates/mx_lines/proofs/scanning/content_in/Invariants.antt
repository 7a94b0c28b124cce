use Rattle.std.proofs.Common.{◌≡◌}
use Rattle.serde_json.specs.Data.{Members, object}
use Rattle.serde_json.specs.Written.{compact_text}
use Rattle.mx_lines.proofs.ScanLemmas.{IsLeft}
use Rattle.mx_lines.proofs.scanning.content_in.Given as goal

abbrev pub invariant-loop : goal.invariant-loop
invariant-loop l = (ms : Members) → l.text ≡ compact_text (object ms) → IsLeft ms l.rest
