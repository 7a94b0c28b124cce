use Rattle.std.proofs.Common.{◌∙◌, ◌++◌, ◌∷◌, [], sym, ap, refl, length, get_or}
use Rattle.mx_keeper.specs.Places.{place_number}
use Rattle.mx_book.specs.Journal.{free, begun}
use Rattle.mx_book.specs.declared.entries.BookEntry.TheVariants.{GivenUp}
use Rattle.mx_world.proofs.PlaceLemmas.{places-set, parts-set}
use Rattle.mx_world.proofs.StorageLemmas.{only-set}
use Rattle.mx_world.proofs.StatusLemmas.{book-entry, state-get}
use Rattle.mx_world.proofs.books.give_up_in.Goals as goal

pub give_up-requires : goal.give_up-requires
give_up-requires g c =
    sym (state-get c.args.books.now c.number_for-number.result c.index-books-number.result c.args.key.now
    (c.number_for-number.ensures.number ∙ ap (place_number (length c.args.books.now)) c.as_str.ensures.text) c.number_for-number.ensures.within)
    ∙ c.requires.begun ∙ ap begun (sym c.new.ensures.value)

pub returns-clause-states : goal.returns-clause-states
returns-clause-states g c =
    book-entry c.args.books.now c.number_for-number.result c.index-books-number.result c.give_up.new.self c.args.key.now (GivenUp c.args.key.now 0) (λ _. free)
    (c.number_for-number.ensures.number ∙ ap (place_number (length c.args.books.now)) c.as_str.ensures.text) c.number_for-number.ensures.within refl
    (c.give_up.ensures.journal ∙ ap (λ n. (get_or c.args.books.now c.number_for-number.result c.index-books-number.result).journal ++ GivenUp c.args.key.now n ∷ []) c.new.ensures.value) refl

pub returns-clause-places : goal.returns-clause-places
returns-clause-places g c =
    places-set c.args.books.now (λ book. book.place) c.number_for-number.result c.index-books-number.result c.give_up.new.self c.number_for-number.ensures.within c.give_up.ensures.place

pub returns-clause-keepers : goal.returns-clause-keepers
returns-clause-keepers g c =
    parts-set c.args.books.now (λ book. book.keeper) c.number_for-number.result c.index-books-number.result c.give_up.new.self c.number_for-number.ensures.within c.give_up.ensures.keeper

pub returns-clause-refused : goal.returns-clause-refused
returns-clause-refused g c =
    parts-set c.args.books.now (λ book. book.is_refused) c.number_for-number.result c.index-books-number.result c.give_up.new.self c.number_for-number.ensures.within c.give_up.ensures.refused

pub returns-clause-only : goal.returns-clause-only
returns-clause-only g c = only-set c.args.books.now c.number_for-number.result c.give_up.new.self c.args.key.now.origin (c.number_for-number.ensures.number ∙ ap (place_number (length c.args.books.now)) c.as_str.ensures.text)
