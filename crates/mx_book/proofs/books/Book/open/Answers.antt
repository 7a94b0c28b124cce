use Rattle.std.proofs.Common.{◌≡◌, List, [], Some, IsTrue, ap, ◌∙◌, sym, subst}
use Rattle.std.specs.Prelude.{◌↔◌}
use Rattle.mx_keeper.specs.declared.rows.BookRow.{BookRow}
use Rattle.mx_book.specs.Journal.{stored}
use Rattle.mx_book.specs.declared.entries.BookEntry.{BookEntry}
use Rattle.mx_book.specs.declared.entries.BookEntry.TheVariants.{Begun}
use Rattle.mx_book.proofs.IndexLemmas.{indexed_replies, blank_begun}
use Rattle.mx_book.proofs.StoredLemmas.{stored-begun}
use Rattle.mx_book.proofs.books.Book.open.Goals as goal

pub invariant_of-self : goal.invariant_of-self
invariant_of-self g c =
    let b = c.self.inside in
    let same = c.in_err-record_beginning.ensures.err in (
      indexed_replies c.record_beginning.new.journal c.record_beginning.new.callers b.places c.as_slice-in-Fresh.result.now b.replies.items c.as_slice-in-Fresh.ensures.value c.record_beginning.ensures.indexed,
      c.record_beginning.ensures.sound,
      subst (λ (js : List BookEntry). IsTrue b.is_blank ↔ (js ≡ [])) (sym same) c.self.invariant.2,
      λ taken honest. let was = c.self.invariant.3 taken honest in (was.0, was.1 ∙ ap (λ (js : List BookEntry). Some (stored js)) (sym same)),
    )

pub invariant_of-self-in-Fresh : goal.invariant_of-self-in-Fresh
invariant_of-self-in-Fresh g c =
    let b = c.self.inside in
    let same = stored-begun b.journal c.record_beginning.new.journal c.args.key.now c.args.caller c.in_ok-record_beginning.ensures.journal in (
      indexed_replies c.record_beginning.new.journal c.record_beginning.new.callers b.places c.as_slice-in-Fresh.result.now b.replies.items c.as_slice-in-Fresh.ensures.value c.record_beginning.ensures.indexed,
      c.record_beginning.ensures.sound,
      blank_begun b.journal c.record_beginning.new.journal (Begun c.args.key.now c.args.caller) c.in_ok-record_beginning.ensures.journal,
      λ taken honest. let was = c.self.invariant.3 taken honest in (was.0, was.1 ∙ ap (λ (rows : List BookRow). Some rows) (sym same)),
    )
