use Rattle.std.proofs.Common.{◌≡◌, ◌+◌, ◌<◌, ℕ, List, length, get_or}
use Rattle.std.specs.Prelude.{All}
use Rattle.mx_shard.specs.Journal.{Entry}
use Rattle.mx_book.specs.declared.entries.BookEntry.{BookEntry}
use Rattle.mx_engine.specs.declared.seats.Seat.{Seat}
use Rattle.mx_engine.specs.Closing.{AreFirst, AreNext}
use Rattle.mx_engine.proofs.opening.others_of.Given as goal

abbrev pub invariant-loop-made : goal.invariant-loop-made
invariant-loop-made g l = record {
  long : length l.others.items + 1 ≡ l.made;
  numbers : (n : ℕ) (d : Seat g.row.K.Denot g.row.L.Denot) → n < length l.others.items
      → (get_or l.others.items n d).number ≡ n + 2;
  shards : (journals : List (List Entry)) → AreFirst journals l.shards 1 l.fn.first.shards.items
      → All (λ seat. AreNext journals l.shards seat.number seat.shards.items) l.others.items;
  books : (journals : List (List BookEntry)) → AreFirst journals l.books 1 l.fn.first.books.items
      → All (λ seat. AreNext journals l.books seat.number seat.books.items) l.others.items;
  first_shards : (journals : List (List Entry)) → AreFirst journals l.shards 1 l.fn.first.shards.items
      → AreFirst journals l.shards l.made l.first.shards.items;
  first_books : (journals : List (List BookEntry)) → AreFirst journals l.books 1 l.fn.first.books.items
      → AreFirst journals l.books l.made l.first.books.items;
  lists : (l.first.closed_shards ≡ l.fn.first.closed_shards) × (l.first.closed_books ≡ l.fn.first.closed_books)
      × (l.first.number ≡ l.fn.first.number);
}
