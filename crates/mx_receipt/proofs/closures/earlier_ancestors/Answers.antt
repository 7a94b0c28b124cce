use Rattle.std.proofs.Common.{ap, subst, ◌∙◌}
use Rattle.mx_graph.specs.Graph.{IsSound, ancestors}
use Rattle.mx_receipt.proofs.ClosureLemmas.{ancestors-before}
use Rattle.mx_receipt.proofs.closures.earlier_ancestors.Goals as goal

pub returns-clause-set : goal.returns-clause-set
returns-clause-set c = λ earlier next are known.
    c.in_ok-found.ensures.set ∙ ap (λ rows. ancestors rows c.args.starts.now) are
    ∙ ancestors-before earlier next (subst IsSound are c.graph_is_sound.ensures) c.args.starts.now known
