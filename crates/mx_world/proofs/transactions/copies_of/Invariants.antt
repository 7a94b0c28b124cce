use Rattle.std.proofs.Common.{◌≡◌, take}
use Rattle.mx_world.proofs.transactions.copies_of.Given as goal

abbrev pub invariant-loop-offered : goal.invariant-loop-offered
invariant-loop-offered l = l.copies.items ≡ take l.offered-index l.events
