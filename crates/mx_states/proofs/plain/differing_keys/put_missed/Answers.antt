use Rattle.std.proofs.Common.{◌≡◌, ◌+◌, ◌||◌, is_some, drop, ◌∷◌, sym, ap, ◌∙◌, arith}
use Rattle.std.proofs.lemmas.List.{drop_more}
use Rattle.std.specs.FinMap.Entries.{put}
use Rattle.mx_graph.specs.StateMap.{entry, key_cmp}
use Rattle.mx_states.specs.Entries.{has_missed}
use Rattle.mx_states.proofs.DifferingLemmas.{missed-put, missed-kept}
use Rattle.mx_states.proofs.plain.differing_keys.put_missed.Goals as goal
use Rattle.mx_states.proofs.plain.differing_keys.put_missed.Goals.{then-not-has_entry+in_ok-insert, else-not-has_entry}

pub loop-entry-preserved : goal.loop-entry-preserved
loop-entry-preserved c key =
    let items = c.entries-entry-items.result.now in
    let i = c.loop-entry.entry-index in
    let e = c.entry-item.result in
    let rest = drop (i + 1) items in
    let next : drop i items ≡ e ∷ rest = drop_more items i e (omega arith) ∙ ap (λ f. f ∷ drop (i + 1) items) (sym c.entry-item.is) in
    elim c.if-not-has_entry.branch [
      | then-not-has_entry+in_ok-insert w ↦
          ap (λ s. is_some (entry s key) || has_missed c.args.other.now rest key)
          (w.found-is ∙ w.in_ok-insert.ensures.ok ∙ (λ j. put key_cmp (w.kind.ensures j, w.state_key.ensures j) (w.event.ensures j) c.loop-entry.found))
          ∙ missed-put c.loop-entry.found c.args.other.now (drop i items) rest e next (sym c.has_entry.ensures ∙ w.if-not-has_entry.true) key ∙ c.loop-entry.invariant key
      | else-not-has_entry w ↦
          ap (λ s. is_some (entry s key) || has_missed c.args.other.now rest key) w.found-is
          ∙ missed-kept c.loop-entry.found c.args.other.now (drop i items) rest e next (sym c.has_entry.ensures ∙ w.if-not-has_entry.false) key ∙ c.loop-entry.invariant key
    ]
