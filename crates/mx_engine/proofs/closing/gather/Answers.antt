use Rattle.std.proofs.Common.{◌++◌, [], ◌∷◌, ap, append_assoc, refl, sym, ◌∙◌}
use Rattle.mx_engine.specs.Berths.{views_of}
use Rattle.mx_engine.specs.declared.seats.Seat.{Seat}
use Rattle.mx_engine.proofs.ClosingLemmas.{gathered-none, gathered-views}
use Rattle.mx_engine.proofs.closing.gather.Goals as goal

pub loop-seat-init : goal.loop-seat-init
loop-seat-init g c = record {
  split = sym c.into_iter-seat-iterator.ensures.into_iter_gives.0;
  shards = gathered-none c.args.shards.now c.args.first.now.shards.items c.args.first.now.number c.requires.first_shards;
  books = gathered-none c.args.books.now c.args.first.now.books.items c.args.first.now.number c.requires.first_books;
  shard_views = refl;
  book_views = refl;
  lists = (refl, refl);
}

pub loop-seat-preserved : goal.loop-seat-preserved
loop-seat-preserved g c =
    let i = c.loop-seat.invariant in
    let e = c.give_back_seat.ensures in
    let done = c.loop-seat.yielded in
    let seat = c.in-Some.seat in
    let new = c.give_back_seat.new.first in
    record {
      split = i.split ∙ ap (λ rest. done ++ rest) c.in-Some.ensures.steps.0
          ∙ sym (append_assoc done (seat ∷ []) c.next.new.self.rest.items);
      shards = gathered-views c.args.shards.now new.shards.items
          (λ (s : Seat g.row.K.Denot g.row.L.Denot). views_of s.shards.items) done seat (e.shards _ i.shards);
      books = gathered-views c.args.books.now new.books.items
          (λ (s : Seat g.row.K.Denot g.row.L.Denot). views_of s.books.items) done seat (e.books _ i.books);
      shard_views = e.shard_views ∙ i.shard_views;
      book_views = e.book_views ∙ i.book_views;
      lists = (e.lists.0 ∙ i.lists.0, e.lists.1 ∙ i.lists.1);
    }
