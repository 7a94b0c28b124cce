use Rattle.std.proofs.Common.{◌∙◌, ◌++◌, ap, length, get_or, Err}
use Rattle.mx_keeper.specs.Places.{place_number}
use Rattle.mx_book.specs.Journal.{begins, hold_of, stored}
use Rattle.mx_world.proofs.PlaceLemmas.{placed-is_at, places-set, journals-set}
use Rattle.mx_world.proofs.StorageLemmas.{lasts-same, all-set, only-set, fails-set}
use Rattle.mx_world.proofs.StatusLemmas.{book-begun}
use Rattle.mx_world.proofs.RefusalLemmas.{is-storage, on_err}
use Rattle.mx_world.proofs.CrashLemmas.{book-same, stored-begins}
use Rattle.mx_world.proofs.books.begin_in.Goals as goal

pub returns-in_err-opening-clause-err : goal.returns-in_err-opening-clause-err
returns-in_err-opening-clause-err g c =
    on_err c.from_residual.result (journals-set c.args.books.now (λ book. book.journal) c.number_for-number.result c.index-books-number.result c.open.new.self c.number_for-number.ensures.within c.in_err-opening.ensures.err)

pub returns-in_err-opening-clause-places : goal.returns-in_err-opening-clause-places
returns-in_err-opening-clause-places g c =
    places-set c.args.books.now (λ book. book.place) c.number_for-number.result c.index-books-number.result c.open.new.self c.number_for-number.ensures.within c.open.ensures.place

pub open-requires : goal.open-requires
open-requires g c =
    placed-is_at c.args.books.now (λ book. book.place) c.number_for-number.result c.index-books-number.result c.args.key.now.origin c.requires
    (c.number_for-number.ensures.number ∙ ap (place_number (length c.args.books.now)) c.as_str.ensures.text) c.number_for-number.ensures.within

pub returns-clause-states : goal.returns-clause-states
returns-clause-states g c =
    book-begun c.args.books.now c.number_for-number.result c.index-books-number.result c.open.new.self c.args.key.now
    (c.number_for-number.ensures.number ∙ ap (place_number (length c.args.books.now)) c.as_str.ensures.text) c.number_for-number.ensures.within
    (c.in_ok-opening.ensures.journal ∙ ap (λ n. (get_or c.args.books.now c.number_for-number.result c.index-books-number.result).journal ++ begins c.args.key.now n (hold_of (get_or c.args.books.now c.number_for-number.result c.index-books-number.result).journal c.args.key.now)) c.new.ensures.value)

pub returns-clause-places : goal.returns-clause-places
returns-clause-places g c =
    places-set c.args.books.now (λ book. book.place) c.number_for-number.result c.index-books-number.result c.open.new.self c.number_for-number.ensures.within c.open.ensures.place

pub returns-in_err-opening-clause-storage : goal.returns-in_err-opening-clause-storage
returns-in_err-opening-clause-storage g c = λ is.
    fails-set (λ book. book.is_refused) (λ book. g.L.Keeper.failed book.keeper) c.args.books.now c.number_for-number.result c.index-books-number.result c.open.new.self c.args.key.now.origin
    (c.number_for-number.ensures.number ∙ ap (place_number (length c.args.books.now)) c.as_str.ensures.text) c.number_for-number.ensures.within
    (c.open.ensures.refused ∙ c.in_err-opening.ensures.storage.0 (ap (λ e. Err e) (is-storage c.from_residual.result c.in_err-opening.field-0.0 c.from_residual.ensures.1 is)))
    (lasts-same (λ book. book.is_refused) (λ book. g.L.Keeper.failed book.keeper) (get_or c.args.books.now c.number_for-number.result c.index-books-number.result) c.open.new.self c.open.ensures.refused (ap g.L.Keeper.failed c.open.ensures.keeper))

pub returns-in_err-opening-clause-only : goal.returns-in_err-opening-clause-only
returns-in_err-opening-clause-only g c = only-set c.args.books.now c.number_for-number.result c.open.new.self c.args.key.now.origin (c.number_for-number.ensures.number ∙ ap (place_number (length c.args.books.now)) c.as_str.ensures.text)

pub returns-in_err-opening-clause-last : goal.returns-in_err-opening-clause-last
returns-in_err-opening-clause-last g c =
    all-set (λ book. book.is_refused) (λ book. g.L.Keeper.failed book.keeper) c.args.books.now c.number_for-number.result c.index-books-number.result c.open.new.self c.number_for-number.ensures.within
    (lasts-same (λ book. book.is_refused) (λ book. g.L.Keeper.failed book.keeper) (get_or c.args.books.now c.number_for-number.result c.index-books-number.result) c.open.new.self c.open.ensures.refused (ap g.L.Keeper.failed c.open.ensures.keeper))

pub returns-clause-only : goal.returns-clause-only
returns-clause-only g c = only-set c.args.books.now c.number_for-number.result c.open.new.self c.args.key.now.origin (c.number_for-number.ensures.number ∙ ap (place_number (length c.args.books.now)) c.as_str.ensures.text)

pub returns-clause-last : goal.returns-clause-last
returns-clause-last g c =
    all-set (λ book. book.is_refused) (λ book. g.L.Keeper.failed book.keeper) c.args.books.now c.number_for-number.result c.index-books-number.result c.open.new.self c.number_for-number.ensures.within
    (lasts-same (λ book. book.is_refused) (λ book. g.L.Keeper.failed book.keeper) (get_or c.args.books.now c.number_for-number.result c.index-books-number.result) c.open.new.self c.open.ensures.refused (ap g.L.Keeper.failed c.open.ensures.keeper))

pub returns-in_err-opening-clause-crash : goal.returns-in_err-opening-clause-crash
returns-in_err-opening-clause-crash g c = book-same g.L.Keeper.is_honest g.L.Keeper.may_leave c.args.books.now c.number_for-number.result c.index-books-number.result c.open.new.self c.number_for-number.ensures.within c.open.ensures.keeper (ap stored c.in_err-opening.ensures.err)

pub returns-clause-crash : goal.returns-clause-crash
returns-clause-crash g c =
    book-same g.L.Keeper.is_honest g.L.Keeper.may_leave c.args.books.now c.number_for-number.result c.index-books-number.result c.open.new.self c.number_for-number.ensures.within c.open.ensures.keeper
    (stored-begins (get_or c.args.books.now c.number_for-number.result c.index-books-number.result).journal c.open.new.self.journal c.args.key.now c.new.result (hold_of (get_or c.args.books.now c.number_for-number.result c.index-books-number.result).journal c.args.key.now) c.in_ok-opening.ensures.journal)
