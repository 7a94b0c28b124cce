use Rattle.std.proofs.Common.{◌<◌, List, length, ap, subst, sym, ◌∙◌}
use Rattle.std.specs.List.{All}
use Rattle.mx_graph.specs.Edges.{Rises}
use Rattle.mx_graph.specs.Record.{Row, events_where, names_in_redaction}
use Rattle.mx_graph.proofs.RedactionLemmas.{where-rises, where-below}
use Rattle.mx_graph.proofs.graphs.Graph.redactions_of.Goals as goal

pub returns-clause-named : goal.returns-clause-named
returns-clause-named c =
    c.get.ensures ∙ c.self.invariant.redactions c.args.id.now ∙ ap (λ (rows : List Row). events_where rows (names_in_redaction rows c.args.id.now)) c.self.view_is

pub returns-clause-rises : goal.returns-clause-rises
returns-clause-rises c = subst Rises (sym (returns-clause-named c)) (where-rises c.args.self.now (names_in_redaction c.args.self.now c.args.id.now))

pub returns-clause-below : goal.returns-clause-below
returns-clause-below c =
    subst (All (λ p. p < length c.args.self.now)) (sym (returns-clause-named c)) (where-below c.args.self.now (names_in_redaction c.args.self.now c.args.id.now))
