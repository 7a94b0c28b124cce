use Rattle.std.proofs.Common.{◌≡◌, ◌++◌, map}
use Rattle.mx_engine.specs.Berths.{views_of}
use Rattle.mx_engine.specs.Closing.{AreGathered}
use Rattle.mx_engine.proofs.closing.gather.Given as goal

abbrev pub invariant-loop-seat : goal.invariant-loop-seat
invariant-loop-seat g l = record {
  split : l.fn.others.items ≡ l.yielded ++ l.seat-iterator.rest.items;
  shards : AreGathered l.shards l.first.shards.items (map (λ seat. views_of seat.shards.items) l.yielded);
  books : AreGathered l.books l.first.books.items (map (λ seat. views_of seat.books.items) l.yielded);
  shard_views : views_of l.first.shards.items ≡ views_of l.fn.first.shards.items;
  book_views : views_of l.first.books.items ≡ views_of l.fn.first.books.items;
  lists : (l.first.closed_shards ≡ l.fn.first.closed_shards) × (l.first.closed_books ≡ l.fn.first.closed_books);
}
