use Rattle.mx_state_res.proofs.ConflictLemmas.{difference-found}
use Rattle.mx_state_res.proofs.plain.plain_conflicts.auth_difference.Goals as goal

pub returns : goal.returns
returns c =
    difference-found c.args.graph.now c.args.states.now c.in_ok-chains.chains.items c.deref.result.now c.deref-3.result.now c.in_ok-all.all.items c.deref-2.result.now c.in_ok-events.events.items
    c.in_ok-chains.ensures.chains c.deref.ensures.value c.deref-3.ensures.value c.in_ok-all.ensures.rises c.in_ok-all.ensures.same c.deref-2.ensures.value c.in_ok-events.ensures
