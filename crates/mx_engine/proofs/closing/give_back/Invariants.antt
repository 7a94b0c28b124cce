use Rattle.std.proofs.Common.{◌≡◌, drop}
use Rattle.mx_engine.proofs.RowLemmas.{AreReplaced}
use Rattle.mx_engine.proofs.ClosingLemmas.{IsGiven}
use Rattle.mx_engine.proofs.closing.give_back.Given as goal

abbrev pub invariant-loop-number : goal.invariant-loop-number
invariant-loop-number g l = record {
  left : l.number-iterator.iter.rest.items ≡ drop l.number-iterator.count l.fn.berths.items;
  replaced : AreReplaced (IsGiven l.fn.docks l.fn.berths.items) l.number-iterator.count l.fn.first.items l.first.items;
}
