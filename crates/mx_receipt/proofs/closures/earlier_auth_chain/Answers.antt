use Rattle.std.proofs.Common.{ap, subst, ◌∙◌}
use Rattle.mx_graph.specs.Graph.{IsSound, auth_chain}
use Rattle.mx_receipt.proofs.ClosureLemmas.{auth_chain-before}
use Rattle.mx_receipt.proofs.closures.earlier_auth_chain.Goals as goal

pub returns-clause-set : goal.returns-clause-set
returns-clause-set c = λ earlier next are known.
    c.in_ok-found.ensures.set ∙ ap (λ rows. auth_chain rows c.args.starts.now) are
    ∙ auth_chain-before earlier next (subst IsSound are c.graph_is_sound.ensures) c.args.starts.now known
