use Rattle.std.proofs.Common.{◌≡◌, take}
use Rattle.mx_keeper.specs.Places.{place_number}
use Rattle.mx_keeper.proofs.places.number_for.Given as goal

abbrev pub invariant-loop-byte : goal.invariant-loop-byte
invariant-loop-byte l = l.number ≡ place_number l.count (take l.byte-index l.name)
