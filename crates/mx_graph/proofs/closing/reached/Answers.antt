use Rattle.std.proofs.Common.{◌&&◌, arith, ap, ◌∙◌}
use Rattle.std.proofs.lemmas.Bool.{le-leb}
use Rattle.mx_graph.specs.Record.{is_in}
use Rattle.mx_graph.proofs.Closure.{same_closed}
use Rattle.mx_graph.specs.Edges.{cited}
use Rattle.mx_graph.proofs.closing.reached.Goals as goal

pub returns-then-bound-saturating_mul-clause-all : goal.returns-then-bound-saturating_mul-clause-all
returns-then-bound-saturating_mul-clause-all c = λ all closed p. c.in_ok-by_marks.ensures.part all closed p ∙ ap (λ b. b && all p) (le-leb 0 p (omega arith))

pub returns-clause-all : goal.returns-clause-all
returns-clause-all c = λ all closed p. same_closed (cited c.args.edges.now) c.args.starts.now (is_in c.in_ok-by_set.by_set.items) all c.in_ok-by_set.ensures.least closed p
