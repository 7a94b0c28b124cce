use Rattle.std.proofs.Common.{◌∙◌, ap, sym, subst}
use Rattle.std.specs.Prelude.{length, nat_lt}
use Rattle.std.proofs.lemmas.List.{length-map}
use Rattle.mx_dock.specs.Dock.{own}
use Rattle.mx_engine.specs.Berths.{AreBerthsAt, caller_of, views_of}
use Rattle.mx_engine.proofs.SeatLemmas.{by_number, by_caller, made_kept}
use Rattle.mx_engine.proofs.engines.Engine.read_rooms.Goals as goal

pub read_in-requires-clause-seated : goal.read_in-requires-clause-seated
read_in-requires-clause-seated g c =
    let berths = c.args.seat.now.shards.items in
    subst (λ docks. AreBerthsAt docks (caller_of berths) berths) (sym c.deref.ensures.value)
    (by_number c.args.self.now.shards.items c.args.seat.now.number berths c.requires.seat.shards)

pub returns-clause-seat : goal.returns-clause-seat
returns-clause-seat g c =
    let shards = views_of c.args.seat.now.shards.items in
    record {
      shards = by_caller c.args.self.now.shards.items c.args.seat.now.number c.args.seat.now.shards.items
          c.read_in.new.berths.items c.requires.seat.shards
          (subst (λ docks. AreBerthsAt docks (caller_of c.args.seat.now.shards.items) c.read_in.new.berths.items)
          c.deref.ensures.value c.read_in.ensures.seated);
      books = c.requires.seat.books;
      ended = c.requires.seat.ended;
      opened = c.requires.seat.opened;
      first = λ is. let f = c.requires.seat.first is in record {
        shards_made = λ n l. made_kept shards (views_of c.read_in.new.berths.items) c.args.self.now.seats
            c.read_in.ensures.nothing n (f.shards_made n l);
        books_made = f.books_made;
        no_shard = f.no_shard;
        no_book = f.no_book;
        shard_room = f.shard_room;
        book_room = f.book_room;
      };
    }

pub returns-clause-there : goal.returns-clause-there
returns-clause-there g c =
    let berths = c.args.seat.now.shards.items in
    c.read_in.ensures.there ∙ ap (λ docks. nat_lt c.args.shard (length docks)) c.deref.ensures.value
    ∙ ap (nat_lt c.args.shard) (sym c.requires.seat.shards.same ∙ sym (length-map berths own))
