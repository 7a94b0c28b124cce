use Rattle.std.proofs.Common.{replicate, sym, ap, subst, ◌∙◌}
use Rattle.mx_state_res.specs.RowSets.{AreCounted}
use Rattle.mx_state_res.proofs.StateSetLemmas.{none-counted}
use Rattle.mx_state_res.proofs.chains.row_sets.RowSets.new.Goals as goal

pub returns-clause-counted : goal.returns-clause-counted
returns-clause-counted c =
    subst (λ n. AreCounted c.args.states n c.in_ok-sets.sets.items 0) (sym c.every.ensures)
    (none-counted c.args.states c.args.rows c.in_ok-sets.sets.items (c.in_ok-sets.ensures.items_if_clones_equal (λ x e. e) ∙ ap (replicate c.args.rows) c.none.ensures))
