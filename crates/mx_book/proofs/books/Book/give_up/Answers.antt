use Rattle.std.proofs.Common.{◌≡◌, List, Some, ap, ◌∙◌, sym, subst}
use Rattle.mx_keeper.specs.declared.rows.BookRow.{BookRow}
use Rattle.mx_book.specs.Journal.{hold_of, begun}
use Rattle.mx_book.specs.View.{BookView}
use Rattle.mx_book.specs.declared.entries.BookEntry.TheVariants.{GivenUp}
use Rattle.mx_book.proofs.IndexLemmas.{indexed_replies, blank_ended}
use Rattle.mx_book.proofs.StoredLemmas.{stored-given_up}
use Rattle.mx_book.proofs.books.Book.give_up.Goals as goal

pub invariant_of-self : goal.invariant_of-self
invariant_of-self g c =
    let b = c.self.inside in
    let started = subst (λ js. hold_of js c.args.key.now ≡ begun c.args.caller) (sym (ap (λ (v : BookView _). v.journal) c.self.view_is)) c.requires in
    let same = stored-given_up b.journal c.record_giving_up.new.journal c.args.key.now c.args.caller c.record_giving_up.ensures.journal in (
      indexed_replies c.record_giving_up.new.journal c.record_giving_up.new.callers b.places c.as_slice.result.now b.replies.items c.as_slice.ensures.value c.record_giving_up.ensures.indexed,
      c.record_giving_up.ensures.sound,
      blank_ended b.journal c.record_giving_up.new.journal (GivenUp c.args.key.now c.args.caller) c.record_giving_up.ensures.journal b.is_blank c.args.key.now c.args.caller c.self.invariant.2 started,
      λ taken honest. let was = c.self.invariant.3 taken honest in (was.0, was.1 ∙ ap (λ (rows : List BookRow). Some rows) (sym same)),
    )
