use Rattle.std.proofs.Common.{◌≡◌, ◌<◌, List, length, sym, ap, subst, ◌∙◌}
use Rattle.mx_graph.specs.Record.{row}
use Rattle.mx_receipt.specs.Receipt.{Kept, rows_of}
use Rattle.mx_audit.proofs.EarlierLemmas.{row-earlier, within-earlier}
use Rattle.mx_audit.proofs.earlier_events.EarlierEvents.row.Goals as goal

pub row-requires : goal.row-requires
row-requires c =
    within-earlier c.self.inside.timeline.now.kept c.self.inside.next c.self.invariant.1 c.args.number
    (subst (λ (ks : List Kept). c.args.number < length ks) (sym c.self.view_is) c.requires)

pub returns : goal.returns
returns c =
    c.row.ensures
    ∙ row-earlier c.self.inside.timeline.now.kept c.self.inside.next c.self.invariant.1 c.args.number
    (subst (λ (ks : List Kept). c.args.number < length ks) (sym c.self.view_is) c.requires)
    ∙ ap (λ (ks : List Kept). row (rows_of ks) c.args.number) c.self.view_is
