use Rattle.std.proofs.Common.{◌∙◌, ◌++◌, ◌∷◌, [], sym, ap, refl, length, get_or, Err}
use Rattle.mx_keeper.specs.Places.{place_number}
use Rattle.mx_book.specs.Journal.{kept, begun}
use Rattle.mx_book.specs.declared.entries.BookEntry.TheVariants.{Kept}
use Rattle.mx_world.proofs.PlaceLemmas.{placed-is_at, places-set, journals-set}
use Rattle.mx_world.proofs.StorageLemmas.{lasts-called, all-set, only-set, fails-set}
use Rattle.mx_world.proofs.StatusLemmas.{book-entry, state-get}
use Rattle.mx_world.proofs.RefusalLemmas.{is-storage, on_err}
use Rattle.mx_world.proofs.CrashLemmas.{book-stored, book-tried}
use Rattle.mx_world.proofs.books.keep_in.Goals as goal

pub returns-in_err-keep-clause-err : goal.returns-in_err-keep-clause-err
returns-in_err-keep-clause-err g c =
    on_err c.from_residual.result (journals-set c.args.books.now (λ book. book.journal) c.number_for-number.result c.index-books-number.result c.keep.new.self c.number_for-number.ensures.within c.in_err-keep.ensures.err)

pub returns-in_err-keep-clause-places : goal.returns-in_err-keep-clause-places
returns-in_err-keep-clause-places g c =
    places-set c.args.books.now (λ book. book.place) c.number_for-number.result c.index-books-number.result c.keep.new.self c.number_for-number.ensures.within c.keep.ensures.place

pub keep-requires : goal.keep-requires
keep-requires g c =
    sym (state-get c.args.books.now c.number_for-number.result c.index-books-number.result c.args.key.now
    (c.number_for-number.ensures.number ∙ ap (place_number (length c.args.books.now)) c.as_str.ensures.text) c.number_for-number.ensures.within)
    ∙ c.requires.begun ∙ ap begun (sym c.new.ensures.value)

pub returns-clause-states : goal.returns-clause-states
returns-clause-states g c =
    book-entry c.args.books.now c.number_for-number.result c.index-books-number.result c.keep.new.self c.args.key.now (Kept c.args.key.now 0 c.args.reply) (λ _. kept c.args.reply)
    (c.number_for-number.ensures.number ∙ ap (place_number (length c.args.books.now)) c.as_str.ensures.text) c.number_for-number.ensures.within refl
    (c.in_ok-keep.ensures.journal ∙ ap (λ n. (get_or c.args.books.now c.number_for-number.result c.index-books-number.result).journal ++ Kept c.args.key.now n c.args.reply ∷ []) c.new.ensures.value) refl

pub returns-clause-places : goal.returns-clause-places
returns-clause-places g c =
    places-set c.args.books.now (λ book. book.place) c.number_for-number.result c.index-books-number.result c.keep.new.self c.number_for-number.ensures.within c.keep.ensures.place

pub returns-in_err-keep-clause-storage : goal.returns-in_err-keep-clause-storage
returns-in_err-keep-clause-storage g c = λ is.
    fails-set (λ book. book.is_refused) (λ book. g.L.Keeper.failed book.keeper) c.args.books.now c.number_for-number.result c.index-books-number.result c.keep.new.self c.args.key.now.origin
    (c.number_for-number.ensures.number ∙ ap (place_number (length c.args.books.now)) c.as_str.ensures.text) c.number_for-number.ensures.within
    (c.in_err-keep.ensures.refused.0 (ap (λ e. Err e) (is-storage c.from_residual.result c.in_err-keep.field-0.0 c.from_residual.ensures.1 is)))
    (lasts-called (λ book. book.is_refused) (λ book. g.L.Keeper.failed book.keeper) (get_or c.args.books.now c.number_for-number.result c.index-books-number.result) c.keep.new.self c.in_err-keep.ensures.storage c.in_err-keep.ensures.refused c.in_err-keep.ensures.stays_refused c.keep.ensures.counted)

pub returns-in_err-keep-clause-only : goal.returns-in_err-keep-clause-only
returns-in_err-keep-clause-only g c = only-set c.args.books.now c.number_for-number.result c.keep.new.self c.args.key.now.origin (c.number_for-number.ensures.number ∙ ap (place_number (length c.args.books.now)) c.as_str.ensures.text)

pub returns-in_err-keep-clause-last : goal.returns-in_err-keep-clause-last
returns-in_err-keep-clause-last g c =
    all-set (λ book. book.is_refused) (λ book. g.L.Keeper.failed book.keeper) c.args.books.now c.number_for-number.result c.index-books-number.result c.keep.new.self c.number_for-number.ensures.within
    (lasts-called (λ book. book.is_refused) (λ book. g.L.Keeper.failed book.keeper) (get_or c.args.books.now c.number_for-number.result c.index-books-number.result) c.keep.new.self c.in_err-keep.ensures.storage c.in_err-keep.ensures.refused c.in_err-keep.ensures.stays_refused c.keep.ensures.counted)

pub returns-clause-only : goal.returns-clause-only
returns-clause-only g c = only-set c.args.books.now c.number_for-number.result c.keep.new.self c.args.key.now.origin (c.number_for-number.ensures.number ∙ ap (place_number (length c.args.books.now)) c.as_str.ensures.text)

pub returns-clause-last : goal.returns-clause-last
returns-clause-last g c =
    all-set (λ book. book.is_refused) (λ book. g.L.Keeper.failed book.keeper) c.args.books.now c.number_for-number.result c.index-books-number.result c.keep.new.self c.number_for-number.ensures.within
    (lasts-called (λ book. book.is_refused) (λ book. g.L.Keeper.failed book.keeper) (get_or c.args.books.now c.number_for-number.result c.index-books-number.result) c.keep.new.self c.in_ok-keep.ensures.storage c.in_ok-keep.ensures.refused c.in_ok-keep.ensures.stays_refused c.keep.ensures.counted)

pub returns-in_err-keep-clause-crash : goal.returns-in_err-keep-clause-crash
returns-in_err-keep-clause-crash g c =
    book-tried g.L.Keeper.is_honest g.L.Keeper.may_leave c.args.books.now c.number_for-number.result c.index-books-number.result c.keep.new.self c.number_for-number.ensures.within
    c.from_residual.result c.in_err-keep.field-0.0 c.new.result c.args.key.now c.args.reply c.from_residual.ensures.1 c.new.ensures.value
    (placed-is_at c.args.books.now (λ book. book.place) c.number_for-number.result c.index-books-number.result c.args.key.now.origin c.requires.placed
    (c.number_for-number.ensures.number ∙ ap (place_number (length c.args.books.now)) c.as_str.ensures.text) c.number_for-number.ensures.within)
    c.keep.ensures.place c.in_err-keep.ensures.err c.keep.ensures.honest c.keep.ensures.crash

pub returns-clause-crash : goal.returns-clause-crash
returns-clause-crash g c = book-stored g.L.Keeper.is_honest g.L.Keeper.may_leave c.args.books.now c.number_for-number.result c.index-books-number.result c.keep.new.self c.number_for-number.ensures.within c.keep.ensures.honest c.in_ok-keep.ensures.durable
