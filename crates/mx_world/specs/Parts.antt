-- The shards and the books of a server, each at its place, and what always holds of each (our own).
use Rattle.std.specs.Prelude.{ℕ, ◌≡◌, ◌<◌, ◌≤◌, false, List, All, length, map, get_or, Option, Some, IsTrue}
use Rattle.mx_keeper.specs.Places.{PlaceView, is_at}
use Rattle.mx_keeper.specs.declared.rows.ShardRow.{ShardRow}
use Rattle.mx_keeper.specs.declared.rows.BookRow.{BookRow}
use Rattle.mx_shard.specs.Journal.{IsLegal, stored as shard_rows}
use Rattle.mx_shard.specs.View.{ShardView}
use Rattle.mx_book.specs.Journal.{transaction_of, is_legal, stored as book_rows}
use Rattle.mx_book.specs.View.{BookView}

abbrev pub shard_places : {K : Type 0} → List (ShardView K) → List PlaceView
shard_places shards = map (λ shard. shard.place) shards

abbrev pub book_places : {L : Type 0} → List (BookView L) → List PlaceView
book_places books = map (λ book. book.place) books

-- there are between 1 and 64, each at the place with its number
pub record ArePlaced (places : List PlaceView) : Type 0 where
  pub some : 0 < length places
  pub few : length places ≤ 64
  pub each : (n : ℕ) (d : PlaceView) → n < length places → get_or places n d ≡ record { number = n; count = length places }

-- what always holds of a shard's journal and rows, by what its keeper tells
pub record IsSoundShard {K : Type 0} (honest open_ : K → Type 0) (read : K → Option (List ShardRow)) (shard : ShardView K) : Type 0 where
  pub here : All (λ entry. IsTrue (is_at shard.place entry.room)) shard.journal
  pub legal : IsLegal shard.journal
  pub rows : shard.is_refused ≡ false → honest shard.keeper → open_ shard.keeper × (read shard.keeper ≡ Some (shard_rows shard.journal))

-- what always holds of a book's journal and rows, by what its keeper tells
pub record IsSoundBook {L : Type 0} (honest open_ : L → Type 0) (read : L → Option (List BookRow)) (book : BookView L) : Type 0 where
  pub here : All (λ entry. IsTrue (is_at book.place (transaction_of entry).origin)) book.journal
  pub legal : IsTrue (is_legal book.journal)
  pub rows : book.is_refused ≡ false → honest book.keeper → open_ book.keeper × (read book.keeper ≡ Some (book_rows book.journal))

-- the view with this number is not so
abbrev pub FilledAt : {V : Type 0} → (V → Type 0) → List V → ℕ → Type 0
FilledAt {V = V} is_blank views n = (n < length views) × ((d : V) → ¬ (is_blank (get_or views n d)))
