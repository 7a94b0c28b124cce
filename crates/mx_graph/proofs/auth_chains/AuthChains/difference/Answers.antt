use Rattle.std.proofs.Common.{IfSome, Vec, subst}
use Rattle.std.specs.declared.alloc.Global.{Global}
use Rattle.mx_graph.specs.AuthChains.{kept_at, place_at, AreMetBySome}
use Rattle.mx_graph.specs.declared.reached_rows.Reached.{Reached}
use Rattle.mx_graph.proofs.ChainDifferenceLemmas.{found-differs}
use Rattle.mx_graph.proofs.auth_chains.AuthChains.difference.Goals as goal

pub returns-clause-set : goal.returns-clause-set
returns-clause-set c =
    found-differs (place_at c.args.self.now.places.items) (kept_at c.args.self.now.reached.items) c.args.shared.now c.args.apart.now c.in-Some.met.items c.deref.result.now c.in_ok-found.found c.deref.ensures.value
    (subst (λ o. IfSome o (λ (rows : Vec Reached Global). AreMetBySome (place_at c.args.self.now.places.items) (kept_at c.args.self.now.reached.items) c.args.apart.now rows.items)) c.in-Some.is c.in_ok-met.ensures.found)
    c.in_ok-found.ensures.set
