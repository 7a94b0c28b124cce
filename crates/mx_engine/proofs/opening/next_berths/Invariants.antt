use Rattle.mx_engine.proofs.OpeningLemmas.{AreMade}
use Rattle.mx_engine.proofs.opening.next_berths.Given as goal

abbrev pub invariant-loop-number : goal.invariant-loop-number
invariant-loop-number g l = AreMade l.docks l.fn.first.items l.first.items l.number l.berths.items
