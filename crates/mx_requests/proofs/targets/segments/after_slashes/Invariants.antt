use Rattle.std.proofs.Common.{◌≡◌}
use denote.Text.{Utf8}
use denote.Shadow.{shadow}
use Rattle.mx_requests.specs.Targets.{after_slashes}
use Rattle.mx_requests.proofs.targets.segments.after_slashes.Given as goal

abbrev pub invariant-loop : goal.invariant-loop
invariant-loop l = shadow (Utf8 l.rest) × (l.rest ≡ after_slashes l.counter l.fn.text)
