use Rattle.std.proofs.Common.{Bool, ℕ, filter, is_none, ap, subst, sym, ◌∙◌}
use Rattle.mx_pdu.specs.StateKeys.{Key}
use Rattle.mx_graph.specs.StateMap.{entry}
use Rattle.mx_states.specs.Entries.{overwritten}
use Rattle.mx_states.proofs.KeyLemmas.{Sorted, sorted-filter}
use Rattle.mx_states.proofs.OverwrittenLemmas.{overwritten-empty}
use Rattle.mx_states.proofs.plain.differing_keys.without_keys.Goals as goal

pub loop-entry-init : goal.loop-entry-init
loop-entry-init c =
    let kept : Key × ℕ → Bool = λ e. is_none (entry c.args.taken.now e.0) in
    let items = c.entries-entry-items.result.now in
    ap (λ s. overwritten s (filter kept items)) c.new-rest.ensures
    ∙ overwritten-empty (filter kept items) (sorted-filter kept items (subst Sorted (sym c.entries-entry-items.ensures.entries) c.entries-entry-items.ensures.sorted))
