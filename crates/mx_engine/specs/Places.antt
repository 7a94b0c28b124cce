-- Places as docks tell them, and callers (our own).
use Rattle.std.specs.Prelude.{ℕ, ◌+◌, ◌*◌}
use Rattle.mx_keeper.specs.Places.{PlaceView}
use Rattle.mx_book.specs.declared.entries.BookEntry.{BookEntry}
use Rattle.mx_book.specs.declared.entries.BookEntry.TheVariants.{Begun, Kept, GivenUp}

-- the number of a place and how many there are, as one number: both are less than 65
abbrev pub place_code : PlaceView → ℕ
place_code place = 65 * place.count + place.number

-- the caller that made an entry of a book
abbrev pub book_caller : BookEntry → ℕ
book_caller (Begun key caller) = caller
book_caller (Kept key caller reply) = caller
book_caller (GivenUp key caller) = caller
