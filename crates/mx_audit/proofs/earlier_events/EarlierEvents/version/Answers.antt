use Rattle.std.proofs.Common.{List, ap, ◌∙◌}
use Rattle.mx_receipt.specs.Receipt.{Kept, rows_of, version_in}
use Rattle.mx_audit.proofs.EarlierLemmas.{version-earlier}
use Rattle.mx_audit.proofs.earlier_events.EarlierEvents.version.Goals as goal

pub returns : goal.returns
returns c =
    c.version.ensures ∙ version-earlier c.self.inside.timeline.now.kept c.self.inside.next c.self.invariant.0
    ∙ ap (λ (ks : List Kept). version_in (rows_of ks)) c.self.view_is
