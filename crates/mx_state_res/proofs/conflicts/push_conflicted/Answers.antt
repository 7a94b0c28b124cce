use Rattle.std.proofs.Common.{◌≡◌, ◌++◌, Result, Ok, Err, OnErr, take, filter, ap, ◌∙◌, rules}
use Rattle.mx_graph.specs.StateMap.{events_of}
use Rattle.mx_state_res.proofs.ConflictLemmas.{lacks}
use Rattle.mx_state_res.proofs.conflicts.push_conflicted.Goals as goal

at_error : {T E P : Type 0} (r : Result T E) → P → OnErr r P
at_error (Ok x) p = tt
at_error (Err e) p = p

pub returns-in_err-push-clause-err : goal.returns-in_err-push-clause-err
returns-in_err-push-clause-err c =
    let same : c.push.new.self.items ≡ c.loop-entry.found.items = search rules in
    at_error c.from_residual.result
    (c.loop-entry.entry-index, same ∙ c.loop-entry.invariant ∙ ap (λ s. c.args.found.now.items ++ events_of (filter (lacks c.args.agreed.now) (take c.loop-entry.entry-index s))) c.entries-entry-items.ensures.entries)
