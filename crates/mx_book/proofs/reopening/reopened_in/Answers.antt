use Rattle.std.proofs.Common.{◌≡◌, ◌++◌, ◌∷◌, [], List, Err, sym, ap, subst, ◌∙◌, append_assoc, append-nil, arith, false}
use Rattle.std.proofs.lemmas.List.{map-append}
use Rattle.mx_keeper.specs.declared.rows.BookRow.{BookRow}
use Rattle.mx_book.specs.Journal.{entry_of, reopened, can_reopen}
use Rattle.mx_book.specs.declared.entries.BookEntry.{BookEntry}
use Rattle.mx_book.proofs.ReopenLemmas.{reopen-none, no-more, is-storage}
use Rattle.mx_book.proofs.reopening.reopened_in.Goals as goal

pub loop-row-init : goal.loop-row-init
loop-row-init c = record {
  done = [];
  all = c.into_iter-row-iterator.ensures.into_iter_gives.0;
  journal = c.new-journal.ensures;
  made = reopen-none c.args.place.now c.new-journal.result c.new-callers.result c.new-places.result c.new-replies.result.items c.new-journal.ensures c.new-callers.ensures.len c.new-places.ensures.len c.new-replies.ensures.items;
}

pub reopen_row-requires : goal.reopen_row-requires
reopen_row-requires c = c.loop-row.invariant.made

pub loop-row-preserved : goal.loop-row-preserved
loop-row-preserved c =
    let i = c.loop-row.invariant in
    record {
      done = i.done ++ c.in-Some.row ∷ [];
      all = append_assoc i.done (c.in-Some.row ∷ []) c.next.new.self.rest.items ∙ ap (λ (rs : List BookRow). i.done ++ rs) (sym c.in-Some.ensures.steps.0) ∙ i.all;
      journal = c.in_ok-reopen_row.ensures.journal ∙ ap (λ (js : List BookEntry). js ++ entry_of c.in-Some.row ∷ []) i.journal ∙ sym (map-append entry_of i.done (c.in-Some.row ∷ []));
      made = c.in_ok-reopen_row.ensures.made;
    }

pub returns-in_err-reopen_row-clause-storage : goal.returns-in_err-reopen_row-clause-storage
returns-in_err-reopen_row-clause-storage c = λ is.
    let i = c.loop-row.invariant in
    subst (λ (rs : List BookRow). can_reopen c.args.place.now rs ≡ false) (ap (λ (rs : List BookRow). i.done ++ rs) (sym c.in-Some.ensures.steps.0) ∙ i.all)
    (c.in_err-reopen_row.ensures.storage (ap (λ e. Err e) (is-storage c.from_residual.result c.in_err-reopen_row.field-0.0 c.from_residual.ensures.1 is)) i.done c.next.new.self.rest.items i.journal)

pub returns-clause-journal : goal.returns-clause-journal
returns-clause-journal c =
    let i = c.loop-row.invariant in
    let rest = c.loop-row.row-iterator.rest in
    let none : rest.items ≡ [] = no-more rest.items (omega (arith, rest.ok.0, c.in-None.ensures.steps.0)) in
    i.journal ∙ ap reopened (sym (append-nil i.done) ∙ ap (λ (rs : List BookRow). i.done ++ rs) (sym none) ∙ i.all)

pub returns-clause-made : goal.returns-clause-made
returns-clause-made c = c.loop-row.invariant.made
