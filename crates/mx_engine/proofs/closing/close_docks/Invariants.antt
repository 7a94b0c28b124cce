use Rattle.std.proofs.Common.{◌≡◌, ◌≤◌, length, drop, vec_capacity}
use Rattle.mx_engine.proofs.ClosedDockLemmas.{AreClosed}
use Rattle.mx_engine.proofs.closing.close_docks.Given as goal

abbrev pub invariant-loop-dock : goal.invariant-loop-dock
invariant-loop-dock g l = record {
  docks : l.dock-iterator.rest.items ≡ drop (length l.values.items) l.fn.docks.items;
  berths : l.berths.items ≡ drop (length l.values.items) l.fn.berths.items;
  closed : AreClosed g.T.Docked.place_of g.T.Docked.journal_of g.T.Docked.is_legal g.T.Journaled.caller l.fn.berths.items
      l.values.items;
  within : length l.values.items ≤ length l.fn.docks.items;
  room : vec_capacity l.values ≡ vec_capacity l.fn.list;
}
