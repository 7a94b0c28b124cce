use Rattle.std.proofs.Common.{◌≡◌, ℕ, ◌||◌, ◌&&◌, not, take}
use Rattle.mx_graph.specs.Record.{is_in}
use Rattle.mx_receipt.specs.Receipt.{rows_of}
use Rattle.mx_room.specs.HistoryWalks.{AreBounded, waits}
use Rattle.mx_room.proofs.queries.history_walks.put_known.Given as goal

abbrev pub invariant-loop-number : goal.invariant-loop-number
invariant-loop-number l = record {
  ahead : (p : ℕ) → waits (rows_of l.timeline.kept) l.ahead p ≡ (waits (rows_of l.timeline.kept) l.fn.ahead p && not (is_in (take l.number-index l.numbers) p));
  known : (p : ℕ) → waits (rows_of l.timeline.kept) l.known p ≡ (waits (rows_of l.timeline.kept) l.fn.known p || is_in (take l.number-index l.numbers) p);
  ahead_rows : AreBounded (rows_of l.timeline.kept) l.fn.ahead → AreBounded (rows_of l.timeline.kept) l.ahead;
  known_rows : AreBounded (rows_of l.timeline.kept) l.fn.known → AreBounded (rows_of l.timeline.kept) l.known;
}
