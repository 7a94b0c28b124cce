use Rattle.std.proofs.Common.{Bool, ℕ, not, filter, ap, subst, sym, ◌∙◌}
use Rattle.mx_pdu.specs.StateKeys.{Key}
use Rattle.mx_states.specs.Numbered.{state_at}
use Rattle.mx_states.specs.Entries.{has_entry, overwritten}
use Rattle.mx_states.proofs.KeyLemmas.{Sorted, sorted-filter}
use Rattle.mx_states.proofs.OverwrittenLemmas.{overwritten-empty}
use Rattle.mx_states.proofs.states.state_changes.put_over.Goals as goal

pub loop-entry-init : goal.loop-entry-init
loop-entry-init c =
    let kept : Key × ℕ → Bool = λ e. not (has_entry e (state_at c.args.states.now c.args.number)) in
    let items = c.entries-entry-items.result.now in
    ap (λ s. overwritten s (filter kept items)) c.new-found.ensures
    ∙ overwritten-empty (filter kept items) (sorted-filter kept items (subst Sorted (sym c.entries-entry-items.ensures.entries) c.entries-entry-items.ensures.sorted))
