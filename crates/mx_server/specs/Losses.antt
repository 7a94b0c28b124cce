-- The lines that tell of events which replies call kept and which no shard has (our own).
use Rattle.std.specs.Prelude.{ℕ, zero, suc, ◌==◌, if◌then◌else◌, List, [], ◌∷◌, ◌++◌, codes, get_or, length}
use Rattle.std.specs.Fmt.{decimal}
use Rattle.mx_world.specs.Losses.{ids_told, not_held}
use Rattle.mx_world.specs.View.{WorldView}
use Rattle.mx_world.specs.Worlds.{book_journals, shard_journals}

-- how many events the replies of this book call kept that no shard has
abbrev pub lost_count : {K L : Type 0} → WorldView K L → (book : ℕ) → ℕ
lost_count world book = length (not_held (shard_journals world.shards) (ids_told (get_or (book_journals world.books) book [])))

-- of how many events a book's replies are lost
abbrev pub loss_words : (lost : ℕ) → List ℕ
loss_words lost =
    if lost == 1 then codes ".db: 1 event that its replies call kept is in no shard"
    else codes ".db: " ++ (decimal lost ++ codes " events that its replies call kept are in no shard")

-- the line of a book with so many
abbrev pub loss_line : (directory : List ℕ) → (book lost : ℕ) → List ℕ
loss_line directory book lost = directory ++ (codes "/book-" ++ (decimal book ++ loss_words lost))

-- a line where some are lost
abbrev pub line_if : (directory : List ℕ) → (book lost : ℕ) → List (List ℕ)
line_if directory book lost = if lost == 0 then [] else loss_line directory book lost ∷ []

-- the lines of so many books, in their order
abbrev pub loss_lines : (directory : List ℕ) → (lost : (book : ℕ) → ℕ) → (books : ℕ) → List (List ℕ)
loss_lines directory lost zero = []
loss_lines directory lost (suc books) = loss_lines directory lost books ++ line_if directory books (lost books)
