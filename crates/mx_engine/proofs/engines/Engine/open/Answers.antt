use Rattle.std.proofs.Common.{◌≡◌, ◌<◌, ◌≤◌, ◌+◌, ◌∙◌, ap, sym, subst, length, get_or, arith}
use Rattle.std.specs.Prelude.{vec_capacity}
use Rattle.std.specs.Prelude.{All}
use Rattle.mx_book.specs.Journal.{IsEnded}
use Rattle.mx_world.specs.Worlds.{shard_journals, book_journals}
use Rattle.mx_engine.specs.Berths.{AreBerthsAt, views_of}
use Rattle.mx_engine.specs.Closing.{AreFirst, IsNew}
use Rattle.mx_engine.specs.Seats.{IsFirstSeat}
use Rattle.mx_engine.proofs.SeatLemmas.{new_ended, new_opened, all_ended, numbered_first, numbered_all}
use Rattle.mx_engine.proofs.engines.Engine.open.Goals as goal

pub returns-clause-mine : goal.returns-clause-mine
returns-clause-mine g c = λ k d l.
    let all = c.in_ok-all.all.items in
    let seat = get_or all k d in
    let shards = shard_journals c.into_parts-shards.result.0.items in
    let books = book_journals c.into_parts-shards.result.1.items in
    let e = c.in_ok-all.ensures in
    let at_shards : AreFirst shards c.deref.result.now 1 c.in_ok-first.first.shards.items =
    subst (λ berths. AreFirst shards c.deref.result.now 1 berths) (sym (ap (λ v. v.items) c.in_ok-first.ensures.shards))
    (subst (λ docks. AreFirst shards docks 1 c.in_ok-shards.shard_berths.items) (sym c.deref.ensures.value)
    c.in_ok-shards.ensures) in
    let at_books : AreFirst books c.deref-2.result.now 1 c.in_ok-first.first.books.items =
    subst (λ berths. AreFirst books c.deref-2.result.now 1 berths) (sym (ap (λ v. v.items) c.in_ok-first.ensures.books))
    (subst (λ docks. AreFirst books docks 1 c.in_ok-books.book_berths.items) (sym c.deref-2.ensures.value)
    c.in_ok-books.ensures) in
    let of_shards = e.shards shards at_shards k d l in
    let of_books = e.books books at_books k d l in
    let ended = all_ended c.into_parts-shards.result.1.items
    (subst (λ bs. All (λ book. IsEnded book.journal) bs) (sym c.into_parts-shards.ensures.books)
    (c.into_parts-shards.ensures.ended c.requires.idle)) in
    record {
      shards = subst (λ docks. AreBerthsAt docks seat.number seat.shards.items) c.deref.ensures.value of_shards.seated;
      books = subst (λ docks. AreBerthsAt docks seat.number seat.books.items) c.deref-2.ensures.value of_books.seated;
      ended = new_ended books (views_of seat.books.items) of_books.new;
      opened = new_opened books (views_of seat.books.items) ended of_books.new;
      first = λ is.
          let n : seat.number ≡ k + 1 = e.numbers k d (subst (λ m. k < m) e.length l) in
          let zero : k ≡ 0 = omega (arith, is, n) in
          let made_shards = (e.first_shards shards d at_shards).counted in
          let made_books = (e.first_books books d at_books).counted in
          let here : seat ≡ get_or all 0 d = ap (λ m. get_or all m d) zero in
          let lists = e.lists d in
          subst (IsFirstSeat (record {
            shards = c.in_ok-shards.shards;
            books = c.in_ok-books.books;
            verifier = c.args.verifier;
            gate = c.args.gate;
            seats = c.args.seats;
          })) (sym here)
          (record {
            shards_made = λ m below. made_shards m (subst (λ docks. m < length docks) (sym c.deref.ensures.value) below);
            books_made = λ m below. made_books m (subst (λ docks. m < length docks) (sym c.deref-2.ensures.value) below);
            no_shard = ap (λ v. v.items) lists.0 ∙ c.in_ok-first.ensures.no_shard.0;
            no_book = ap (λ v. v.items) lists.1 ∙ c.in_ok-first.ensures.no_book.0;
            shard_room = subst (λ v. length c.in_ok-shards.shards.items ≤ vec_capacity v) (sym lists.0)
                (subst (λ m. m ≤ vec_capacity c.in_ok-first.first.closed_shards) c.in_ok-shards.ensures.seated.same
                c.in_ok-first.ensures.no_shard.1);
            book_room = subst (λ v. length c.in_ok-books.books.items ≤ vec_capacity v) (sym lists.1)
                (subst (λ m. m ≤ vec_capacity c.in_ok-first.first.closed_books) c.in_ok-books.ensures.seated.same
                c.in_ok-first.ensures.no_book.1);
          });
    }

pub returns-clause-shards : goal.returns-clause-shards
returns-clause-shards g c = λ k d l.
    let journals = shard_journals c.into_parts-shards.result.0.items in
    let first : AreFirst journals c.deref.result.now 1 c.in_ok-first.first.shards.items =
    subst (λ berths. AreFirst journals c.deref.result.now 1 berths) (sym (ap (λ v. v.items) c.in_ok-first.ensures.shards))
    (subst (λ docks. AreFirst journals docks 1 c.in_ok-shards.shard_berths.items) (sym c.deref.ensures.value)
    c.in_ok-shards.ensures) in
    subst (λ parts. IsNew (shard_journals parts) (views_of (get_or c.in_ok-all.all.items k d).shards.items))
    c.into_parts-shards.ensures.shards (c.in_ok-all.ensures.shards journals first k d l).new

pub returns-clause-books : goal.returns-clause-books
returns-clause-books g c = λ k d l.
    let journals = book_journals c.into_parts-shards.result.1.items in
    let first : AreFirst journals c.deref-2.result.now 1 c.in_ok-first.first.books.items =
    subst (λ berths. AreFirst journals c.deref-2.result.now 1 berths) (sym (ap (λ v. v.items) c.in_ok-first.ensures.books))
    (subst (λ docks. AreFirst journals docks 1 c.in_ok-books.book_berths.items) (sym c.deref-2.ensures.value)
    c.in_ok-books.ensures) in
    subst (λ parts. IsNew (book_journals parts) (views_of (get_or c.in_ok-all.all.items k d).books.items))
    c.into_parts-shards.ensures.books (c.in_ok-all.ensures.books journals first k d l).new

pub returns-clause-first : goal.returns-clause-first
returns-clause-first g c =
    numbered_first c.in_ok-all.all.items c.args.seats c.in_ok-all.ensures.length c.requires.some c.in_ok-all.ensures.numbers

pub returns-clause-all : goal.returns-clause-all
returns-clause-all g c =
    numbered_all c.in_ok-all.all.items c.args.seats c.in_ok-all.ensures.length c.in_ok-all.ensures.numbers
