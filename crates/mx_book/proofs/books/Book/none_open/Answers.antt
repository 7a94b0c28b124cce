use Rattle.std.proofs.Common.{IsTrue, ap, subst}
use Rattle.mx_book.specs.Journal.{IsEnded}
use Rattle.mx_book.specs.View.{BookView}
use Rattle.mx_book.proofs.IndexLemmas.{none_begun, all_ended}
use Rattle.mx_book.proofs.books.Book.none_open.Goals as goal

pub returns : goal.returns
returns g c =
    let b = c.self.inside in
    subst (λ js. (IsTrue c.is_empty.result → IsEnded js) × (IsEnded js → IsTrue c.is_empty.result))
    (ap (λ (v : BookView _). v.journal) c.self.view_is) (
      λ h. none_begun b.journal b.callers b.places b.replies.items c.self.invariant.0 (c.is_empty.ensures.0 h),
      λ h. c.is_empty.ensures.1 (all_ended b.journal b.callers b.places b.replies.items c.self.invariant.0 h),
    )
