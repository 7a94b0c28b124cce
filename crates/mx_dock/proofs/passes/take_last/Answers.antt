use Rattle.std.proofs.Common.{rules, subst}
use Rattle.crossbeam_queue.specs.Passes.{view}
use Rattle.mx_dock.specs.Rule.{Closes}
use Rattle.mx_dock.proofs.MoveLemmas.{closes}
use Rattle.mx_dock.proofs.passes.take_last.Goals as goal

pub try_pop_as-requires-clause-rule : goal.try_pop_as-requires-clause-rule
try_pop_as-requires-clause-rule g c = closes g.T.Journaled.journal g.T.Journaled.caller g.T.Journaled.place _ _ (search rules) (search rules)

pub returns-in-Some-try_pop_as : goal.returns-in-Some-try_pop_as
returns-in-Some-try_pop_as g c = subst (λ v. Closes g.T.Journaled.journal g.T.Journaled.caller g.T.Journaled.place v c.in-Some-try_pop_as.value (view c.try_pop_as.new.pass)) c.loop.invariant.1 c.in-Some-try_pop_as.ensures.rule
