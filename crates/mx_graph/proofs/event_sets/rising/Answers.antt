use Rattle.std.proofs.Common.{◌∙◌, ◌++◌, ap}
use Rattle.mx_graph.specs.Record.{is_in}
use Rattle.mx_graph.proofs.SetLemmas.{rises-deduped, same-deduped}
use Rattle.mx_graph.proofs.event_sets.rising.Goals as goal

pub returns-clause-rises : goal.returns-clause-rises
returns-clause-rises c = rises-deduped _ _ c.sort_unstable.ensures.sorted c.dedup.ensures.filtered

pub returns-clause-same : goal.returns-clause-same
returns-clause-same c p = same-deduped _ _ _ c.sort_unstable.ensures.permutation c.dedup.ensures.filtered p ∙ ap (λ xs. is_in xs p) c.in_ok-extend_from_slice.ensures.items ∙ ap (λ xs. is_in (xs ++ c.args.events.now) p) c.new-found.ensures.items
