use Rattle.std.proofs.Common.{◌+◌, ℕ, Bool, not, drop, filter, sym, ap, subst, ◌∙◌, arith}
use Rattle.std.specs.FinMap.Entries.{put}
use Rattle.mx_pdu.specs.StateKeys.{Key}
use Rattle.mx_graph.specs.StateMap.{key_cmp}
use Rattle.mx_states.specs.Entries.{has_entry, overwritten}
use Rattle.mx_states.proofs.KeyLemmas.{Sorted, sorted-filter}
use Rattle.mx_states.proofs.OverwrittenLemmas.{overwritten-empty}
use Rattle.mx_state_res.proofs.AgreedLemmas.{put-kept, put-other}
use Rattle.mx_lines.proofs.WalkLemmas.{left-at}
use Rattle.mx_audit.proofs.conflicting.conflicted_in.Goals as goal
use Rattle.mx_audit.proofs.conflicting.conflicted_in.Goals.{then-lacks+in_ok-insert, else-lacks}

pub loop-entry-init : goal.loop-entry-init
loop-entry-init c =
    let kept : Key × ℕ → Bool = λ e. not (has_entry e c.args.agreed.now) in
    let items = c.entries-entry-items.result.now in
    ap (λ s. overwritten s (filter kept items)) c.new-found.ensures
    ∙ overwritten-empty (filter kept items) (sorted-filter kept items (subst Sorted (sym c.entries-entry-items.ensures.entries) c.entries-entry-items.ensures.sorted))

pub loop-entry-preserved : goal.loop-entry-preserved
loop-entry-preserved c =
    let kept : Key × ℕ → Bool = λ e. not (has_entry e c.args.agreed.now) in
    let items = c.entries-entry-items.result.now in
    let i = c.loop-entry.entry-index in
    let e = c.entry-item.result in
    let next = left-at items i e e (omega arith) c.entry-item.is in
    elim c.if-lacks.branch [
      | then-lacks+in_ok-insert w ↦
          ap (λ s. overwritten s (filter kept (drop (i + 1) items)))
          (w.found-is ∙ w.in_ok-insert.ensures.ok ∙ (λ j. put key_cmp (w.kind.ensures j, w.state_key.ensures j) (w.event.ensures j) c.loop-entry.found))
          ∙ put-kept kept c.loop-entry.found (drop i items) (drop (i + 1) items) e next (sym c.lacks.ensures ∙ w.if-lacks.true) ∙ c.loop-entry.invariant
      | else-lacks w ↦
          ap (λ s. overwritten s (filter kept (drop (i + 1) items))) w.found-is
          ∙ put-other kept c.loop-entry.found (drop i items) (drop (i + 1) items) e next (sym c.lacks.ensures ∙ w.if-lacks.false) ∙ c.loop-entry.invariant
    ]
