use Rattle.std.proofs.Common.{◌≡◌, IsTrue, ap, subst}
use Rattle.mx_book.specs.Journal.{hold_of, begun}
use Rattle.mx_book.specs.View.{BookView}
use Rattle.mx_book.proofs.IndexLemmas.{begun_means, begun_iff}
use Rattle.mx_book.proofs.books.Book.is_begun.Goals as goal

pub returns : goal.returns
returns g c =
    let b = c.self.inside in
    subst (λ js. (IsTrue c.is_begun_in.result → hold_of js c.args.key.now ≡ begun c.args.caller) × (hold_of js c.args.key.now ≡ begun c.args.caller → IsTrue c.is_begun_in.result))
    (ap (λ (v : BookView _). v.journal) c.self.view_is) (
      λ h. begun_iff b.journal b.callers b.places b.replies.items c.args.key.now c.self.invariant.0 c.args.caller (c.is_begun_in.ensures.0 h),
      λ h. c.is_begun_in.ensures.1 (begun_means b.journal b.callers b.places b.replies.items c.args.key.now c.self.invariant.0 c.args.caller h),
    )
