use Rattle.std.proofs.Common.{◌≡◌, fold, length}
use denote.Text.{Utf8}
use denote.Shadow.{shadow}
use Rattle.mx_requests.specs.Authorization.{feed, start}
use Rattle.mx_requests.specs.Reading.{reading_of}
use Rattle.mx_requests.proofs.authorization.read_parts.Given as goal

abbrev pub invariant-loop-before : goal.invariant-loop-before
invariant-loop-before l = shadow (Utf8 l.rest) × (fold feed (reading_of l.reader) l.rest ≡ fold feed start l.fn.text)

abbrev pub decreases-loop-before : goal.decreases-loop-before
decreases-loop-before l = length l.rest
