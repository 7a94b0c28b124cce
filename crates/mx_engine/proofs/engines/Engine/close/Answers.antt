use Rattle.std.proofs.Common.{◌≡◌, ◌∙◌, ◌<◌, ap, sym, subst, length, get_or, map, List, [], ◌∷◌, arith}
use Rattle.std.specs.Prelude.{All, Any, IsTrue}
use Rattle.std.proofs.lemmas.List.Elements.{All-head, All-weaker}
use Rattle.std.proofs.lemmas.List.{get_or-map, length-map}
use Rattle.std.proofs.lemmas.List.Sorted.{All-permutation}
use Rattle.mx_dock.specs.Dock.{own}
use Rattle.mx_shard.specs.Journal.{Entry, IsLegal}
use Rattle.mx_shard.specs.View.{ShardView}
use Rattle.mx_book.specs.Journal.{IsEnded, is_legal}
use Rattle.mx_book.specs.View.{BookView}
use Rattle.mx_book.specs.declared.entries.BookEntry.{BookEntry}
use Rattle.mx_world.specs.Worlds.{shard_journals, book_journals}
use Rattle.mx_engine.specs.Places.{book_caller}
use Rattle.mx_engine.specs.Views.{BerthView, view_at}
use Rattle.mx_engine.specs.Berths.{AreBerthsAt, views_of}
use Rattle.mx_engine.specs.Seats.{IsSeatOf, seat_number, shard_views, book_views}
use Rattle.mx_engine.specs.Closing.{IsWhole, known_at}
use Rattle.mx_engine.specs.declared.seats.Seat.{Seat}
use Rattle.mx_engine.proofs.SeatLemmas.{first_of, known_all}
use Rattle.mx_engine.proofs.ClosingLemmas.{Any-permutation, whole_moved}
use Rattle.mx_engine.proofs.EndedLemmas.{whole_ended}
use Rattle.mx_engine.proofs.engines.Engine.close.Goals as goal

pub first_among-place-requires : goal.first_among-place-requires
first_among-place-requires g c =
    subst (Any (λ (s : Seat g.row.K.Denot g.row.L.Denot). s.number ≡ 1)) (sym c.deref.ensures.value) c.requires.first

pub close_all-shards-requires-clause-shards : goal.close_all-shards-requires-clause-shards
close_all-shards-requires-clause-shards g c =
    let split = first_of c.args.seats.items c.deref.result.now c.first_among-place.result c.remove-first.result
    c.remove-first.new.self.items c.deref.ensures.value c.first_among-place.ensures.within
    c.first_among-place.ensures.first c.remove-first.ensures.value c.remove-first.ensures.items in
    let mine : All (IsSeatOf c.args.self) (c.remove-first.result ∷ c.remove-first.new.self.items) =
    All-permutation (IsSeatOf c.args.self) c.args.seats.items (c.remove-first.result ∷ c.remove-first.new.self.items)
    split.0 c.requires.mine in
    All-weaker (IsSeatOf c.args.self)
    (λ (s : Seat g.row.K.Denot g.row.L.Denot). AreBerthsAt c.args.self.shards.items s.number s.shards.items)
    (λ s is. is.shards) (c.remove-first.result ∷ c.remove-first.new.self.items) mine

pub close_all-shards-requires-clause-books : goal.close_all-shards-requires-clause-books
close_all-shards-requires-clause-books g c =
    let split = first_of c.args.seats.items c.deref.result.now c.first_among-place.result c.remove-first.result
    c.remove-first.new.self.items c.deref.ensures.value c.first_among-place.ensures.within
    c.first_among-place.ensures.first c.remove-first.ensures.value c.remove-first.ensures.items in
    let mine : All (IsSeatOf c.args.self) (c.remove-first.result ∷ c.remove-first.new.self.items) =
    All-permutation (IsSeatOf c.args.self) c.args.seats.items (c.remove-first.result ∷ c.remove-first.new.self.items)
    split.0 c.requires.mine in
    All-weaker (IsSeatOf c.args.self)
    (λ (s : Seat g.row.K.Denot g.row.L.Denot). AreBerthsAt c.args.self.books.items s.number s.books.items)
    (λ s is. is.books) (c.remove-first.result ∷ c.remove-first.new.self.items) mine

pub close_all-shards-requires-clause-all : goal.close_all-shards-requires-clause-all
close_all-shards-requires-clause-all g c =
    let split = first_of c.args.seats.items c.deref.result.now c.first_among-place.result c.remove-first.result
    c.remove-first.new.self.items c.deref.ensures.value c.first_among-place.ensures.within
    c.first_among-place.ensures.first c.remove-first.ensures.value c.remove-first.ensures.items in
    let mine : All (IsSeatOf c.args.self) (c.remove-first.result ∷ c.remove-first.new.self.items) =
    All-permutation (IsSeatOf c.args.self) c.args.seats.items (c.remove-first.result ∷ c.remove-first.new.self.items)
    split.0 c.requires.mine in
    let first = (All-head (IsSeatOf c.args.self) c.remove-first.result c.remove-first.new.self.items mine).first split.1 in (
      c.args.self.seats,
      first.shards_made,
      first.books_made,
      λ n from to. Any-permutation
          (λ (s : Seat g.row.K.Denot g.row.L.Denot). seat_number s ≡ n) c.args.seats.items
          (c.remove-first.result ∷ c.remove-first.new.self.items) split.0 (c.requires.all n from to),
    )

pub close_all-shards-requires-clause-shard_list : goal.close_all-shards-requires-clause-shard_list
close_all-shards-requires-clause-shard_list g c =
    let split = first_of c.args.seats.items c.deref.result.now c.first_among-place.result c.remove-first.result
    c.remove-first.new.self.items c.deref.ensures.value c.first_among-place.ensures.within
    c.first_among-place.ensures.first c.remove-first.ensures.value c.remove-first.ensures.items in
    let mine : All (IsSeatOf c.args.self) (c.remove-first.result ∷ c.remove-first.new.self.items) =
    All-permutation (IsSeatOf c.args.self) c.args.seats.items (c.remove-first.result ∷ c.remove-first.new.self.items)
    split.0 c.requires.mine in
    let first = (All-head (IsSeatOf c.args.self) c.remove-first.result c.remove-first.new.self.items mine).first split.1 in
    (first.no_shard, first.shard_room)

pub close_all-shards-requires-clause-book_list : goal.close_all-shards-requires-clause-book_list
close_all-shards-requires-clause-book_list g c =
    let split = first_of c.args.seats.items c.deref.result.now c.first_among-place.result c.remove-first.result
    c.remove-first.new.self.items c.deref.ensures.value c.first_among-place.ensures.within
    c.first_among-place.ensures.first c.remove-first.ensures.value c.remove-first.ensures.items in
    let mine : All (IsSeatOf c.args.self) (c.remove-first.result ∷ c.remove-first.new.self.items) =
    All-permutation (IsSeatOf c.args.self) c.args.seats.items (c.remove-first.result ∷ c.remove-first.new.self.items)
    split.0 c.requires.mine in
    let first = (All-head (IsSeatOf c.args.self) c.remove-first.result c.remove-first.new.self.items mine).first split.1 in
    (first.no_book, first.book_room)

pub from_parts-requires-clause-ended : goal.from_parts-requires-clause-ended
from_parts-requires-clause-ended g c = λ k d l.
    let split = first_of c.args.seats.items c.deref.result.now c.first_among-place.result c.remove-first.result
    c.remove-first.new.self.items c.deref.ensures.value c.first_among-place.ensures.within
    c.first_among-place.ensures.first c.remove-first.ensures.value c.remove-first.ensures.items in
    let mine : All (IsSeatOf c.args.self) (c.remove-first.result ∷ c.remove-first.new.self.items) =
    All-permutation (IsSeatOf c.args.self) c.args.seats.items (c.remove-first.result ∷ c.remove-first.new.self.items)
    split.0 c.requires.mine in
    let seats = c.remove-first.result ∷ c.remove-first.new.self.items in
    let books = c.close_all-shards.result.1.items in
    let opening = (view_at (views_of c.remove-first.result.books.items) k).opening in
    let known = known_at (map (λ (s : Seat g.row.K.Denot g.row.L.Denot). views_of s.books.items) seats) k in
    let ended : All (λ (v : BerthView BookEntry). IsEnded v.added) known =
    known_all (λ (v : BerthView BookEntry). IsEnded v.added)
    (λ (s : Seat g.row.K.Denot g.row.L.Denot). views_of s.books.items) k seats
    (All-weaker (IsSeatOf c.args.self)
    (λ (s : Seat g.row.K.Denot g.row.L.Denot). IsEnded (view_at (views_of s.books.items) k).added) (λ s is. is.ended k)
    seats mine) in
    let here : get_or (book_journals books) k [] ≡ (get_or books k d).journal =
    get_or-map (λ (b : BookView g.row.L.Denot). b.journal) books k d [] l in
    subst IsEnded here (whole_ended opening known (get_or (book_journals books) k []) (c.close_all-shards.ensures.books k l)
    ((All-head (IsSeatOf c.args.self) c.remove-first.result c.remove-first.new.self.items mine).opened k) ended)

pub returns-clause-shards : goal.returns-clause-shards
returns-clause-shards g c = λ n l.
    let split = first_of c.args.seats.items c.deref.result.now c.first_among-place.result c.remove-first.result
    c.remove-first.new.self.items c.deref.ensures.value c.first_among-place.ensures.within
    c.first_among-place.ensures.first c.remove-first.ensures.value c.remove-first.ensures.items in
    let k : n < length c.close_all-shards.result.0.items =
    subst (λ (vs : List (ShardView g.row.K.Denot)). n < length vs) c.from_parts.ensures.shards l in
    subst (λ (vs : List (ShardView g.row.K.Denot)). IsWhole (λ (e : Entry). e.caller)
    (view_at (get_or (map shard_views c.args.seats.items) 0 []) n).opening
    (known_at (map shard_views c.args.seats.items) n) (get_or (shard_journals vs) n [])) (sym
    c.from_parts.ensures.shards)
    (whole_moved (λ (e : Entry). e.caller) shard_views c.args.seats.items
    (c.remove-first.result ∷ c.remove-first.new.self.items) n
    (get_or (shard_journals c.close_all-shards.result.0.items) n []) split.0 (omega (arith, c.requires.first.2))
    (view_at (shard_views c.remove-first.result) n).opening (c.close_all-shards.ensures.shards n k))

pub returns-clause-books : goal.returns-clause-books
returns-clause-books g c = λ n l.
    let split = first_of c.args.seats.items c.deref.result.now c.first_among-place.result c.remove-first.result
    c.remove-first.new.self.items c.deref.ensures.value c.first_among-place.ensures.within
    c.first_among-place.ensures.first c.remove-first.ensures.value c.remove-first.ensures.items in
    let k : n < length c.close_all-shards.result.1.items =
    subst (λ (vs : List (BookView g.row.L.Denot)). n < length vs) c.from_parts.ensures.books l in
    subst (λ (vs : List (BookView g.row.L.Denot)). IsWhole book_caller
    (view_at (get_or (map book_views c.args.seats.items) 0 []) n).opening
    (known_at (map book_views c.args.seats.items) n) (get_or (book_journals vs) n [])) (sym c.from_parts.ensures.books)
    (whole_moved book_caller book_views c.args.seats.items (c.remove-first.result ∷ c.remove-first.new.self.items) n
    (get_or (book_journals c.close_all-shards.result.1.items) n []) split.0 (omega (arith, c.requires.first.2))
    (view_at (book_views c.remove-first.result) n).opening (c.close_all-shards.ensures.books n k))

pub returns-clause-legal_shards : goal.returns-clause-legal_shards
returns-clause-legal_shards g c =
    subst (All (λ (s : ShardView g.row.K.Denot). IsLegal s.journal)) (sym c.from_parts.ensures.shards)
    c.close_all-shards.ensures.legal_shards

pub returns-clause-legal_books : goal.returns-clause-legal_books
returns-clause-legal_books g c =
    subst (All (λ (b : BookView g.row.L.Denot). IsTrue (is_legal b.journal))) (sym c.from_parts.ensures.books)
    c.close_all-shards.ensures.legal_books

pub returns-clause-counts : goal.returns-clause-counts
returns-clause-counts g c =
    All-weaker (IsSeatOf c.args.self)
    (λ (s : Seat g.row.K.Denot g.row.L.Denot). (length (shard_views s) ≡ length c.from_parts.result.shards)
    × (length (book_views s) ≡ length c.from_parts.result.books))
    (λ s is. (
      length-map s.shards.items own ∙ is.shards.same ∙ sym c.close_all-shards.ensures.shard_count
          ∙ ap length (sym c.from_parts.ensures.shards),
      length-map s.books.items own ∙ is.books.same ∙ sym c.close_all-shards.ensures.book_count
          ∙ ap length (sym c.from_parts.ensures.books),
    ))
    c.args.seats.items c.requires.mine
