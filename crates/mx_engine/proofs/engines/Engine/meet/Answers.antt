use Rattle.std.proofs.Common.{◌≡◌, sym, subst}
use Rattle.mx_book.specs.Journal.{IsEnded}
use Rattle.mx_engine.specs.Views.{view_at}
use Rattle.mx_engine.specs.Berths.{AreBerthsAt, caller_of, views_of}
use Rattle.mx_engine.proofs.SeatLemmas.{by_number, by_caller, ended_kept, opened_kept, made_kept}
use Rattle.mx_engine.proofs.engines.Engine.meet.Goals as goal

pub meet_each-requires-clause-first : goal.meet_each-requires-clause-first
meet_each-requires-clause-first g c =
    let berths = c.args.first.now.shards.items in
    subst (λ docks. AreBerthsAt docks (caller_of berths) berths) (sym c.deref.ensures.value)
    (by_number c.args.self.now.shards.items c.args.first.now.number berths c.requires.first.shards)

pub meet_each-requires-clause-second : goal.meet_each-requires-clause-second
meet_each-requires-clause-second g c =
    let berths = c.args.second.now.shards.items in
    subst (λ docks. AreBerthsAt docks (caller_of berths) berths) (sym c.deref.ensures.value)
    (by_number c.args.self.now.shards.items c.args.second.now.number berths c.requires.second.shards)

pub meet_each-requires-2-clause-first : goal.meet_each-requires-2-clause-first
meet_each-requires-2-clause-first g c =
    let berths = c.args.first.now.books.items in
    subst (λ docks. AreBerthsAt docks (caller_of berths) berths) (sym c.deref-2.ensures.value)
    (by_number c.args.self.now.books.items c.args.first.now.number berths c.requires.first.books)

pub meet_each-requires-2-clause-second : goal.meet_each-requires-2-clause-second
meet_each-requires-2-clause-second g c =
    let berths = c.args.second.now.books.items in
    subst (λ docks. AreBerthsAt docks (caller_of berths) berths) (sym c.deref-2.ensures.value)
    (by_number c.args.self.now.books.items c.args.second.now.number berths c.requires.second.books)

pub returns-clause-first : goal.returns-clause-first
returns-clause-first g c =
    let shards = views_of c.args.first.now.shards.items in
    let books = views_of c.args.first.now.books.items in
    record {
      shards = by_caller c.args.self.now.shards.items c.args.first.now.number c.args.first.now.shards.items
          c.meet_each.new.first.items c.requires.first.shards
          (subst (λ docks. AreBerthsAt docks (caller_of c.args.first.now.shards.items) c.meet_each.new.first.items)
          c.deref.ensures.value c.meet_each.ensures.first);
      books = by_caller c.args.self.now.books.items c.args.first.now.number c.args.first.now.books.items
          c.meet_each-2.new.first.items c.requires.first.books
          (subst (λ docks. AreBerthsAt docks (caller_of c.args.first.now.books.items) c.meet_each-2.new.first.items)
          c.deref-2.ensures.value c.meet_each-2.ensures.first);
      ended = ended_kept books (views_of c.meet_each-2.new.first.items) c.meet_each-2.ensures.nothing c.requires.first.ended;
      opened = opened_kept books (views_of c.meet_each-2.new.first.items) c.meet_each-2.ensures.nothing
          c.requires.first.opened;
      first = λ is. let f = c.requires.first.first is in record {
        shards_made = λ n l. made_kept shards (views_of c.meet_each.new.first.items) c.args.self.now.seats
            c.meet_each.ensures.nothing n (f.shards_made n l);
        books_made = λ n l. made_kept books (views_of c.meet_each-2.new.first.items) c.args.self.now.seats
            c.meet_each-2.ensures.nothing n (f.books_made n l);
        no_shard = f.no_shard;
        no_book = f.no_book;
        shard_room = f.shard_room;
        book_room = f.book_room;
      };
    }

pub returns-clause-second : goal.returns-clause-second
returns-clause-second g c =
    let shards = views_of c.args.second.now.shards.items in
    let books = views_of c.args.second.now.books.items in
    let same_shards = c.meet_each.ensures.stays in
    let same_books = c.meet_each-2.ensures.stays in
    record {
      shards = by_caller c.args.self.now.shards.items c.args.second.now.number c.args.second.now.shards.items
          c.meet_each.new.second.items c.requires.second.shards
          (subst (λ docks. AreBerthsAt docks (caller_of c.args.second.now.shards.items) c.meet_each.new.second.items)
          c.deref.ensures.value c.meet_each.ensures.second);
      books = by_caller c.args.self.now.books.items c.args.second.now.number c.args.second.now.books.items
          c.meet_each-2.new.second.items c.requires.second.books
          (subst (λ docks. AreBerthsAt docks (caller_of c.args.second.now.books.items) c.meet_each-2.new.second.items)
          c.deref-2.ensures.value c.meet_each-2.ensures.second);
      ended = λ n. subst (λ views. IsEnded (view_at views n).added) (sym same_books) (c.requires.second.ended n);
      opened = λ n. subst (λ views. IsEnded (view_at views n).opening) (sym same_books) (c.requires.second.opened n);
      first = λ is. let f = c.requires.second.first is in record {
        shards_made = λ n l. subst (λ views. (view_at views n).made ≡ c.args.self.now.seats) (sym same_shards)
            (f.shards_made n l);
        books_made = λ n l. subst (λ views. (view_at views n).made ≡ c.args.self.now.seats) (sym same_books)
            (f.books_made n l);
        no_shard = f.no_shard;
        no_book = f.no_book;
        shard_room = f.shard_room;
        book_room = f.book_room;
      };
    }
