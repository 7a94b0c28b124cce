use Rattle.std.proofs.Common.{◌≡◌, ◌+◌, [], ◌∷◌, length, get_or, refl, sym, ◌∙◌, ap, subst, arith}
use Rattle.std.proofs.lemmas.List.{length-append}
use Rattle.mx_engine.specs.declared.seats.Seat.{Seat}
use Rattle.mx_engine.specs.Closing.{AreNext}
use Rattle.mx_engine.proofs.RowLemmas.{all-more, row-more}
use Rattle.mx_engine.proofs.opening.others_of.Goals as goal

pub loop-made-preserved : goal.loop-made-preserved
loop-made-preserved g c =
    let i = c.loop-made.invariant in
    let e = c.in_ok-seat.ensures in
    let items = c.in_ok-push.ensures.items in
    let row = c.loop-made.others.items in
    let seat = c.in_ok-seat.seat in
    let count : length c.push.new.self.items ≡ length row + 1 = ap length items ∙ length-append row (seat ∷ []) in
    record {
      long = omega (arith, count, i.long);
      numbers = λ n d l. subst (λ seats. (get_or seats n d).number ≡ n + 2) (sym items)
          (row-more (λ k (s : Seat g.row.K.Denot g.row.L.Denot). s.number ≡ k + 2) (length row) row seat refl i.numbers
          (omega (arith, e.number, i.long)) n d (omega (arith, l, count)));
      shards = λ journals f. all-more (λ s. AreNext journals c.args.shards.now s.number s.shards.items) row
          c.push.new.self.items seat items (i.shards journals f)
          (subst (λ k. AreNext journals c.args.shards.now k seat.shards.items) (sym e.number)
          (e.shards journals c.loop-made.made (i.first_shards journals f)));
      books = λ journals f. all-more (λ s. AreNext journals c.args.books.now s.number s.books.items) row
          c.push.new.self.items seat items (i.books journals f)
          (subst (λ k. AreNext journals c.args.books.now k seat.books.items) (sym e.number)
          (e.books journals c.loop-made.made (i.first_books journals f)));
      first_shards = λ journals f. e.first_shards journals c.loop-made.made (i.first_shards journals f);
      first_books = λ journals f. e.first_books journals c.loop-made.made (i.first_books journals f);
      lists = (e.lists.0 ∙ i.lists.0, e.lists.1 ∙ i.lists.1, e.lists.2 ∙ i.lists.2);
    }

pub next_seat-requires-clause-shards : goal.next_seat-requires-clause-shards
next_seat-requires-clause-shards g c =
    let r = c.requires.shards in
    (r.0, c.loop-made.made, c.loop-made.invariant.first_shards r.0 r.1)

pub next_seat-requires-clause-books : goal.next_seat-requires-clause-books
next_seat-requires-clause-books g c =
    let r = c.requires.books in
    (r.0, c.loop-made.made, c.loop-made.invariant.first_books r.0 r.1)
