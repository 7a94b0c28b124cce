use Rattle.std.proofs.Common.{◌<◌, List, length, ap, subst, sym, ◌∙◌}
use Rattle.std.proofs.lemmas.List.{length-map}
use Rattle.std.specs.List.{All}
use Rattle.mx_graph.specs.Record.{Row, events_where, names_in_redaction}
use Rattle.mx_graph.proofs.RedactionLemmas.{where-below}
use Rattle.mx_receipt.specs.Receipt.{rows_of}
use Rattle.mx_receipt.specs.TimelineView.{TimelineView}
use Rattle.mx_receipt.specs.Timelines.{HasKept}
use Rattle.mx_receipt.proofs.NamingLemmas.{kept-redactions}
use Rattle.mx_receipt.proofs.ShownLemmas.{has-kept, shown-rows, shown-count}
use Rattle.mx_receipt.proofs.timelines.Timeline.redactions_naming.Goals as goal

pub returns-clause-named : goal.returns-clause-named
returns-clause-named c =
    let h : HasKept c.self.inside.graph c.self.inside.states c.self.inside.judgements.items c.self.inside.extremities.items c.self.inside.current c.args.self.now.kept =
    subst (HasKept c.self.inside.graph c.self.inside.states c.self.inside.judgements.items c.self.inside.extremities.items c.self.inside.current) (ap (λ (t : TimelineView). t.kept) c.self.view_is) (has-kept c.self.inside.graph c.self.inside.states c.self.inside.judgements.items c.self.inside.extremities.items c.self.inside.current c.self.inside.prepared c.self.invariant.0) in
    kept-redactions c.self.inside.graph h.kept_rows h.next_row c.args.id.now c.len.result c.redactions_of.result.now c.below_count.result.now h.are_rows
    (c.len.ensures ∙ shown-count c.self.inside.graph c.self.inside.states c.self.inside.judgements.items c.self.inside.extremities.items c.self.inside.current c.args.self.now.kept h)
    c.redactions_of.ensures.named (c.below_count.ensures.last, c.below_count.ensures.all)
    ∙ ap (λ (rs : List Row). events_where rs (names_in_redaction rs c.args.id.now)) (sym (shown-rows c.self.inside.graph c.self.inside.states c.self.inside.judgements.items c.self.inside.extremities.items c.self.inside.current c.args.self.now.kept h))

pub returns-clause-below : goal.returns-clause-below
returns-clause-below c =
    subst (All (λ p. p < length c.args.self.now.kept)) (sym (returns-clause-named c))
    (subst (λ n. All (λ p. p < n) (events_where (rows_of c.args.self.now.kept) (names_in_redaction (rows_of c.args.self.now.kept) c.args.id.now))) (length-map c.args.self.now.kept _)
    (where-below (rows_of c.args.self.now.kept) (names_in_redaction (rows_of c.args.self.now.kept) c.args.id.now)))
