use Rattle.std.proofs.Common.{Bool, ℕ, ◌&&◌, filter, is_none, is_some, ap, subst, sym, ◌∙◌}
use Rattle.mx_pdu.specs.StateKeys.{Key}
use Rattle.mx_graph.specs.StateMap.{entry}
use Rattle.mx_states.specs.Numbered.{state_at}
use Rattle.mx_states.specs.Entries.{overwritten}
use Rattle.mx_states.proofs.KeyLemmas.{Sorted, sorted-filter}
use Rattle.mx_states.proofs.OverwrittenLemmas.{overwritten-empty}
use Rattle.mx_states.proofs.states.state_changes.taken_from.Goals as goal

pub loop-entry-init : goal.loop-entry-init
loop-entry-init c =
    let kept : Key × ℕ → Bool = λ e. is_some (entry (state_at c.args.states.now c.args.number) e.0) && is_none (entry c.args.puts.now e.0) in
    let items = c.entries-entry-items.result.now in
    ap (λ s. overwritten s (filter kept items)) c.new-found.ensures
    ∙ overwritten-empty (filter kept items) (sorted-filter kept items (subst Sorted (sym c.entries-entry-items.ensures.entries) c.entries-entry-items.ensures.sorted))
