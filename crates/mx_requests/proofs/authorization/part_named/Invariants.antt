use Rattle.std.proofs.Common.{◌≡◌, drop, map}
use Rattle.mx_requests.specs.Authorization.{part_named}
use Rattle.mx_requests.specs.Reading.{part_shown}
use Rattle.mx_requests.proofs.authorization.part_named.Given as goal

abbrev pub invariant-loop-part : goal.invariant-loop-part
invariant-loop-part l =
    part_named l.fn.name (map part_shown (drop l.part-index l.fn.parts)) ≡ part_named l.fn.name (map part_shown l.fn.parts)
