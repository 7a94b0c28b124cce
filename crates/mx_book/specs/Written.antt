-- For proofs and private clauses alone.
-- The entries that a journal was made of.
use Rattle.std.specs.Prelude.{List, [], ◌++◌, ◌∷◌}
use Rattle.mx_book.specs.declared.journals.Last.{Last}
use Rattle.mx_book.specs.declared.journals.Last.TheVariants as last
use Rattle.mx_book.specs.declared.entries.BookEntry.{BookEntry}
use Rattle.mx_book.specs.declared.entries.BookEntry.TheVariants.{Begun, Kept, GivenUp}

abbrev pub entries_of : Last → List BookEntry
entries_of last.Nothing = []
entries_of (last.Begun before key caller) = before.value ++ Begun key.value caller ∷ []
entries_of (last.Kept before key caller reply) = before.value ++ Kept key.value caller reply.value ∷ []
entries_of (last.GivenUp before key caller) = before.value ++ GivenUp key.value caller ∷ []
