-- Callers of an engine (our own): which seats are of an engine, and what they know.
use Rattle.std.specs.Prelude.{◌≡◌, ℕ, ◌<◌, ◌≤◌, List, [], ◌∷◌, length, Any, vec_capacity}
use Rattle.mx_shard.specs.Journal.{Entry}
use Rattle.mx_book.specs.Journal.{IsEnded}
use Rattle.mx_book.specs.declared.entries.BookEntry.{BookEntry}
use Rattle.mx_engine.specs.Views.{BerthView, view_at}
use Rattle.mx_engine.specs.Berths.{AreBerthsAt, views_of}
use Rattle.mx_engine.specs.declared.engines.Engine.{Engine}
use Rattle.mx_engine.specs.declared.seats.Seat.{Seat}

module _ {K L : Type 0} where
  -- what the caller knows of each shard, and of each book
  abbrev pub shard_views : Seat K L → List (BerthView Entry)
  shard_views seat = views_of seat.shards.items

  abbrev pub book_views : Seat K L → List (BerthView BookEntry)
  book_views seat = views_of seat.books.items

  -- the number of the caller: the first seat has the number 1
  abbrev pub seat_number : Seat K L → ℕ
  seat_number seat = seat.number

module _ {K L V G : Type 0} where
  -- the first seat knows how many there are, and has room for what closing the engine gives
  pub record IsFirstSeat (engine : Engine K L V G) (seat : Seat K L) : Type 0 where
    pub shards_made : (n : ℕ) → n < length engine.shards.items → (view_at (shard_views seat) n).made ≡ engine.seats
    pub books_made : (n : ℕ) → n < length engine.books.items → (view_at (book_views seat) n).made ≡ engine.seats
    pub no_shard : seat.closed_shards.items ≡ []
    pub no_book : seat.closed_books.items ≡ []
    pub shard_room : length engine.shards.items ≤ vec_capacity seat.closed_shards
    pub book_room : length engine.books.items ≤ vec_capacity seat.closed_books

  -- The seat is one of this engine's. It has ended each transaction that it began.
  pub record IsSeatOf (engine : Engine K L V G) (seat : Seat K L) : Type 0 where
    pub shards : AreBerthsAt engine.shards.items seat.number seat.shards.items
    pub books : AreBerthsAt engine.books.items seat.number seat.books.items
    pub ended : (n : ℕ) → IsEnded (view_at (book_views seat) n).added
    pub opened : (n : ℕ) → IsEnded (view_at (book_views seat) n).opening
    pub first : seat.number ≡ 1 → IsFirstSeat engine seat

  -- how many seats the engine has: they have the numbers from 1 to this one
  abbrev pub seats_made : Engine K L V G → ℕ
  seats_made engine = engine.seats

  -- what judges the signatures of the events that the engine is given
  abbrev pub verifier_of : Engine K L V G → V
  verifier_of engine = engine.verifier

  -- each number up to that of the engine's seats is the number of one of these
  abbrev pub AreAllSeats : Engine K L V G → List (Seat K L) → Type 0
  AreAllSeats engine seats = (n : ℕ) → 1 ≤ n → n ≤ seats_made engine → Any (λ s. seat_number s ≡ n) seats

module _ {K L : Type 0} where
  -- the first seat is among these
  abbrev pub HasFirstSeat : List (Seat K L) → Type 0
  HasFirstSeat seats = Any (λ s. seat_number s ≡ 1) seats

  -- the first seat stands first
  abbrev pub BeginsWithFirstSeat : List (Seat K L) → Type 0
  BeginsWithFirstSeat [] = ⊥
  BeginsWithFirstSeat (seat ∷ seats) = seat_number seat ≡ 1
