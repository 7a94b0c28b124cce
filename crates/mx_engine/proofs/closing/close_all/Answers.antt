use Rattle.std.proofs.Common.{◌≡◌, ◌<◌, ◌∙◌, ap, sym, subst, length, get_or, map, List, [], ◌∷◌}
use Rattle.std.proofs.lemmas.List.Elements.{All-head, All-tail}
use Rattle.std.proofs.lemmas.List.{get_or-map}
use Rattle.mx_dock.specs.Dock.{own}
use Rattle.mx_dock.specs.Rule.{no_berth}
use Rattle.mx_shard.specs.Journal.{Entry}
use Rattle.mx_book.specs.declared.entries.BookEntry.{BookEntry}
use Rattle.mx_world.specs.Worlds.{shard_journals, book_journals}
use Rattle.mx_engine.specs.Places.{book_caller}
use Rattle.mx_engine.specs.Views.{BerthView, view_at}
use Rattle.mx_engine.specs.Berths.{AreBerthsAt, views_of}
use Rattle.mx_engine.specs.Closing.{AreGathered, AreAllBack, IsWhole, known_at}
use Rattle.mx_engine.specs.declared.seats.Seat.{Seat}
use Rattle.mx_engine.proofs.ClosingLemmas.{all-back}
use Rattle.mx_engine.proofs.RowLemmas.{some-of}
use Rattle.mx_engine.proofs.closing.close_all.Goals as goal

pub gather-requires-clause-first_shards : goal.gather-requires-clause-first_shards
gather-requires-clause-first_shards g c =
    subst (λ docks. AreBerthsAt docks c.args.first.number c.args.first.shards.items) (sym c.deref.ensures.value)
    (All-head (λ (s : Seat g.row.K.Denot g.row.L.Denot). AreBerthsAt c.args.shards.items s.number s.shards.items)
    c.args.first c.args.others.items c.requires.shards)

pub gather-requires-clause-shards : goal.gather-requires-clause-shards
gather-requires-clause-shards g c = λ k d l.
    subst (λ docks. AreBerthsAt docks (get_or c.args.others.items k d).number (get_or c.args.others.items k d).shards.items)
    (sym c.deref.ensures.value)
    (All-tail (λ (s : Seat g.row.K.Denot g.row.L.Denot). AreBerthsAt c.args.shards.items s.number s.shards.items)
    c.args.first c.args.others.items c.requires.shards k d l)

pub close_docks-shards-requires-clause-all : goal.close_docks-shards-requires-clause-all
close_docks-shards-requires-clause-all g c = (
  map (λ (s : Seat g.row.K.Denot g.row.L.Denot). views_of s.shards.items) c.args.others.items,
  all-back (λ (s : Seat g.row.K.Denot g.row.L.Denot). s.shards.items) (λ (s : Seat g.row.K.Denot g.row.L.Denot). s.number)
      c.args.shards.items c.gather.new.first.shards.items c.args.first c.args.others.items c.requires.all.0 c.requires.shards
      c.requires.number c.gather.ensures.shard_views
      (subst (λ docks. AreGathered docks c.gather.new.first.shards.items
      (map (λ (s : Seat g.row.K.Denot g.row.L.Denot). views_of s.shards.items) c.args.others.items))
      c.deref.ensures.value c.gather.ensures.shards) c.requires.all.1 c.requires.all.3,
)

pub returns-clause-shards : goal.returns-clause-shards
returns-clause-shards g c = λ n l.
    let known = map (λ (s : Seat g.row.K.Denot g.row.L.Denot). views_of s.shards.items) c.args.others.items in
    let back : AreAllBack c.args.shards.items c.gather.new.first.shards.items known =
    all-back (λ (s : Seat g.row.K.Denot g.row.L.Denot). s.shards.items)
    (λ (s : Seat g.row.K.Denot g.row.L.Denot). s.number) c.args.shards.items c.gather.new.first.shards.items c.args.first
    c.args.others.items c.requires.all.0 c.requires.shards c.requires.number c.gather.ensures.shard_views
    (subst (λ docks. AreGathered docks c.gather.new.first.shards.items
    (map (λ (s : Seat g.row.K.Denot g.row.L.Denot). views_of s.shards.items) c.args.others.items)) c.deref.ensures.value
    c.gather.ensures.shards) c.requires.all.1 c.requires.all.3 in
    let k : n < length c.args.shards.items = subst (λ m. n < m) c.close_docks-shards.ensures.count l in
    let j : n < length c.gather.new.first.shards.items = subst (λ m. n < m) (sym back.same) k in
    let b = some-of c.gather.new.first.shards.items n j in
    let here : own (get_or c.gather.new.first.shards.items n b) ≡ view_at (views_of c.args.first.shards.items) n =
    sym (get_or-map own c.gather.new.first.shards.items n b no_berth j)
    ∙ ap (λ (vs : List (BerthView Entry)). view_at vs n) c.gather.ensures.shard_views in
    subst (λ (v : BerthView Entry). IsWhole (λ (e : Entry). e.caller) v.opening (v ∷ known_at known n)
    (get_or (shard_journals c.close_docks-shards.result.items) n [])) here (c.close_docks-shards.ensures.whole known back
    n b k)

pub gather-requires-clause-first_books : goal.gather-requires-clause-first_books
gather-requires-clause-first_books g c =
    subst (λ docks. AreBerthsAt docks c.args.first.number c.args.first.books.items) (sym c.deref-2.ensures.value)
    (All-head (λ (s : Seat g.row.K.Denot g.row.L.Denot). AreBerthsAt c.args.books.items s.number s.books.items)
    c.args.first c.args.others.items c.requires.books)

pub gather-requires-clause-books : goal.gather-requires-clause-books
gather-requires-clause-books g c = λ k d l.
    subst (λ docks. AreBerthsAt docks (get_or c.args.others.items k d).number (get_or c.args.others.items k d).books.items)
    (sym c.deref-2.ensures.value)
    (All-tail (λ (s : Seat g.row.K.Denot g.row.L.Denot). AreBerthsAt c.args.books.items s.number s.books.items)
    c.args.first c.args.others.items c.requires.books k d l)

pub close_docks-books-requires-clause-all : goal.close_docks-books-requires-clause-all
close_docks-books-requires-clause-all g c = (
  map (λ (s : Seat g.row.K.Denot g.row.L.Denot). views_of s.books.items) c.args.others.items,
  all-back (λ (s : Seat g.row.K.Denot g.row.L.Denot). s.books.items) (λ (s : Seat g.row.K.Denot g.row.L.Denot). s.number)
      c.args.books.items c.gather.new.first.books.items c.args.first c.args.others.items c.requires.all.0 c.requires.books
      c.requires.number c.gather.ensures.book_views
      (subst (λ docks. AreGathered docks c.gather.new.first.books.items
      (map (λ (s : Seat g.row.K.Denot g.row.L.Denot). views_of s.books.items) c.args.others.items))
      c.deref-2.ensures.value c.gather.ensures.books) c.requires.all.2 c.requires.all.3,
)

pub returns-clause-books : goal.returns-clause-books
returns-clause-books g c = λ n l.
    let known = map (λ (s : Seat g.row.K.Denot g.row.L.Denot). views_of s.books.items) c.args.others.items in
    let back : AreAllBack c.args.books.items c.gather.new.first.books.items known =
    all-back (λ (s : Seat g.row.K.Denot g.row.L.Denot). s.books.items)
    (λ (s : Seat g.row.K.Denot g.row.L.Denot). s.number) c.args.books.items c.gather.new.first.books.items c.args.first
    c.args.others.items c.requires.all.0 c.requires.books c.requires.number c.gather.ensures.book_views
    (subst (λ docks. AreGathered docks c.gather.new.first.books.items
    (map (λ (s : Seat g.row.K.Denot g.row.L.Denot). views_of s.books.items) c.args.others.items)) c.deref-2.ensures.value
    c.gather.ensures.books) c.requires.all.2 c.requires.all.3 in
    let k : n < length c.args.books.items = subst (λ m. n < m) c.close_docks-books.ensures.count l in
    let j : n < length c.gather.new.first.books.items = subst (λ m. n < m) (sym back.same) k in
    let b = some-of c.gather.new.first.books.items n j in
    let here : own (get_or c.gather.new.first.books.items n b) ≡ view_at (views_of c.args.first.books.items) n =
    sym (get_or-map own c.gather.new.first.books.items n b no_berth j)
    ∙ ap (λ (vs : List (BerthView BookEntry)). view_at vs n) c.gather.ensures.book_views in
    subst (λ (v : BerthView BookEntry). IsWhole book_caller v.opening (v ∷ known_at known n)
    (get_or (book_journals c.close_docks-books.result.items) n [])) here (c.close_docks-books.ensures.whole known back n
    b k)
