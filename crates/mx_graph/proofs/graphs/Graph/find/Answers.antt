use Rattle.std.proofs.Common.{◌≡◌, ◌<◌, length, IfSome, rules, subst, sym}
use Rattle.mx_graph.specs.Record.{place_of}
use Rattle.mx_graph.proofs.RowLemmas.{place-bound}
use Rattle.mx_graph.proofs.graphs.Graph.find.Goals as goal

pub returns-clause-below : goal.returns-clause-below
returns-clause-below c =
    let same : c.copied.result ≡ place_of c.args.self.now c.args.id.now = search rules in
    subst (λ o. IfSome o (λ number. number < length c.args.self.now)) (sym same) (place-bound c.args.self.now c.args.id.now)
