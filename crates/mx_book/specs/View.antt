-- A book as contracts see it.
use Rattle.std.specs.Prelude.{Bool, List}
use Rattle.mx_keeper.specs.Places.{PlaceView}
use Rattle.mx_book.specs.declared.entries.BookEntry.{BookEntry}

-- what keeps its rows, its entries in order, its place among the books, and whether it refuses all for want of storage
pub record BookView (K : Type 0) : Type 0 where
  pub keeper : K
  pub journal : List BookEntry
  pub place : PlaceView
  pub is_refused : Bool
