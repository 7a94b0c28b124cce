use Rattle.std.proofs.Common.{Some, subst}
use Rattle.mx_world.specs.View.{Progress}
use Rattle.mx_world.specs.Worlds.{found, AtTransaction}
use Rattle.mx_world.proofs.StatusLemmas.{found-update}
use Rattle.mx_world.proofs.transacting.add_transaction.Goals as goal

pub returns-clause-found : goal.returns-clause-found
returns-clause-found c =
    subst (λ (t : Progress). AtTransaction (found c.args.going.now.entries) (found c.insert.new.self.entries) c.args.key.now (λ _. Some t)) c.in_ok-transaction.ensures
    (found-update c.args.going.now c.insert.new.self c.in_ok-owned.owned c.args.key.now (Some c.in_ok-transaction.transaction) c.in_ok-owned.ensures.cases c.in_ok-insert.ensures.updates)
