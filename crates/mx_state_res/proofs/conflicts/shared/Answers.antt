use Rattle.std.proofs.Common.{◌≡◌, ◌+◌, ℕ, Bool, drop, filter, sym, ap, subst, ◌∷◌, ◌∙◌, Bor, arith}
use Rattle.std.proofs.lemmas.List.{drop_more}
use Rattle.std.specs.List.{list_all}
use Rattle.std.specs.FinMap.Entries.{put}
use Rattle.mx_pdu.specs.StateKeys.{Key}
use Rattle.mx_graph.specs.StateMap.{State, key_cmp}
use Rattle.mx_states.specs.Entries.{has_entry, overwritten}
use Rattle.mx_states.proofs.KeyLemmas.{Sorted, sorted-filter}
use Rattle.mx_states.proofs.OverwrittenLemmas.{overwritten-empty}
use Rattle.mx_state_res.proofs.AgreedLemmas.{put-kept, put-other}
use Rattle.mx_state_res.proofs.conflicts.shared.Goals as goal
use Rattle.mx_state_res.proofs.conflicts.shared.Goals.{then-is_in_every+in_ok-insert, else-is_in_every}

pub loop-entry-init : goal.loop-entry-init
loop-entry-init c =
    let kept : Key × ℕ → Bool = λ e. list_all (λ (s : Bor State). has_entry e s.now) c.args.others.now in
    let items = c.entries-entry-items.result.now in
    ap (λ s. overwritten s (filter kept items)) c.new-agreed.ensures
    ∙ overwritten-empty (filter kept items) (sorted-filter kept items (subst Sorted (sym c.entries-entry-items.ensures.entries) c.entries-entry-items.ensures.sorted))

pub loop-entry-preserved : goal.loop-entry-preserved
loop-entry-preserved c =
    let kept : Key × ℕ → Bool = λ e. list_all (λ (s : Bor State). has_entry e s.now) c.args.others.now in
    let items = c.entries-entry-items.result.now in
    let i = c.loop-entry.entry-index in
    let e = c.entry-item.result in
    let next : drop i items ≡ e ∷ drop (i + 1) items = drop_more items i e (omega arith) ∙ ap (λ f. f ∷ drop (i + 1) items) (sym c.entry-item.is) in
    elim c.if-is_in_every.branch [
      | then-is_in_every+in_ok-insert w ↦
          ap (λ s. overwritten s (filter kept (drop (i + 1) items)))
          (w.agreed-is ∙ w.in_ok-insert.ensures.ok ∙ (λ j. put key_cmp (w.kind.ensures j, w.state_key.ensures j) (w.event.ensures j) c.loop-entry.agreed))
          ∙ put-kept kept c.loop-entry.agreed (drop i items) (drop (i + 1) items) e next (sym c.is_in_every.ensures ∙ w.if-is_in_every.true) ∙ c.loop-entry.invariant
      | else-is_in_every w ↦
          ap (λ s. overwritten s (filter kept (drop (i + 1) items))) w.agreed-is
          ∙ put-other kept c.loop-entry.agreed (drop i items) (drop (i + 1) items) e next (sym c.is_in_every.ensures ∙ w.if-is_in_every.false) ∙ c.loop-entry.invariant
    ]
