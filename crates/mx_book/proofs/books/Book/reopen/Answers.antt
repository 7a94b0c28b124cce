use Rattle.std.proofs.Common.{◌≡◌, Some, List, sym, ap, ◌∙◌}
use Rattle.mx_keeper.specs.declared.rows.BookRow.{BookRow}
use Rattle.mx_book.specs.Journal.{hold_of, stored, reopened}
use Rattle.mx_book.proofs.ReopenLemmas.{stored-reopened, blank-reopened}
use Rattle.mx_book.proofs.AgainLemmas.{known-again}
use Rattle.mx_book.proofs.books.Book.reopen.Goals as goal

pub invariant_of-result : goal.invariant_of-result
invariant_of-result g c =
    let made = c.in_ok-made-in-Ok.ensures.made in
    let journal = c.in_ok-made-in-Ok.made.journal in
    let rows : stored journal ≡ c.in-Ok.rows.items = ap stored c.in_ok-made-in-Ok.ensures.journal ∙ stored-reopened c.in-Ok.rows.items in (
      made.indexed,
      record { here = made.here; legal = made.legal },
      blank-reopened c.is_empty-is_blank.result c.in-Ok.rows.len c.in-Ok.rows.items journal c.is_empty-is_blank.ensures c.in-Ok.rows.ok.0 c.in_ok-made-in-Ok.ensures.journal,
      λ _ honest. let open' = c.in-Ok.ensures.open honest in (
        open',
        c.in-Ok.ensures.stay honest open' ∙ c.in-Ok.ensures.ok honest ∙ ap (λ (rs : List BookRow). Some rs) (sym rows),
      ),
    )

pub returns-in-Ok-clause-journal : goal.returns-in-Ok-clause-journal
returns-in-Ok-clause-journal g c =
    let is = c.in_ok-made-in-Ok.ensures.journal in
    is ∙ ap reopened (sym (ap stored is ∙ stored-reopened c.in-Ok.rows.items))

pub returns-in-Ok-clause-honest : goal.returns-in-Ok-clause-honest
returns-in-Ok-clause-honest g c = λ honest. (
  c.in-Ok.ensures.honest honest,
  c.in-Ok.ensures.ok honest ∙ ap (λ (rs : List BookRow). Some rs) (sym (ap stored c.in_ok-made-in-Ok.ensures.journal ∙ stored-reopened c.in-Ok.rows.items)),
)

pub returns-in-Ok-clause-again : goal.returns-in-Ok-clause-again
returns-in-Ok-clause-again g c = λ honest journal is legal key.
    let rows : c.in-Ok.rows.items ≡ stored journal = some-is c.in-Ok.rows.items (stored journal) (sym (c.in-Ok.ensures.ok honest) ∙ is) in
    ap (λ entries. hold_of entries key) (c.in_ok-made-in-Ok.ensures.journal ∙ ap reopened rows) ∙ known-again journal legal key
  where
    some-is : (xs ys : List BookRow) → Some xs ≡ Some ys → xs ≡ ys
    some-is xs ys h = cc
