use Rattle.std.proofs.Common.{◌≡◌, ◌≤◌, length, drop}
use Rattle.mx_engine.proofs.OpenedDockLemmas.{AreOpened}
use Rattle.mx_engine.proofs.opening.open_docks.Given as goal

abbrev pub invariant-loop-value : goal.invariant-loop-value
invariant-loop-value g l = record {
  left : l.value-iterator.rest.items ≡ drop (length l.docks.items) l.fn.values.items;
  opened : AreOpened g.T.Docked.place_of g.T.Docked.journal_of l.fn.values.items l.docks.items l.berths.items;
  within : length l.docks.items ≤ length l.fn.values.items;
}
