use Rattle.mx_receipt.specs.Receipt.{rows_of}
use Rattle.mx_room.specs.HistoryWalks.{AreRows, Walks}
use Rattle.mx_room.proofs.queries.history_walks.deepest_behind.Given as goal

abbrev pub invariant-loop : goal.invariant-loop
invariant-loop l = record {
  rows : AreRows (rows_of l.timeline.kept) l.walk;
  walks : Walks (rows_of l.timeline.kept) l.starts l.known l.walk;
}
