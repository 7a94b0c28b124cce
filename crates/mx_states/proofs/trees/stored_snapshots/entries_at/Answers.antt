use Rattle.std.proofs.Common.{◌+◌, ◌-◌, ◌++◌, [], ap, sym, ◌∙◌, arith}
use Rattle.std.proofs.lemmas.List.{append_assoc}
use Rattle.mx_states.specs.KeyTrees.{at_key}
use Rattle.mx_states.specs.StoredSnapshots.{listed, with_entry}
use Rattle.mx_states.proofs.ListedLemmas.{entry-before, listed-step}
use Rattle.mx_states.proofs.trees.stored_snapshots.entries_at.Goals as goal

pub loop-number-preserved : goal.loop-number-preserved
loop-number-preserved c =
    let s = c.index-stored-place.result in
    let f = at_key c.args.trees.now s.tree in
    let n = c.loop-number.number in
    let entries = c.loop-number.entries.items in
    let rest = listed f (n + 1) (s.keys - (n + 1)) in
    record {
      in_range = omega arith;
      so_far =
          ap (λ es. es ++ rest) (c.in_ok-push_entry.ensures ∙ ap (λ k. entries ++ with_entry k c.event_at-event.result []) c.at-key.ensures ∙ ap (λ o. entries ++ with_entry n o []) (c.event_at-event.ensures ∙ ap f c.at-key.ensures))
          ∙ append_assoc entries (with_entry n (f n) []) rest
          ∙ ap (λ es. entries ++ es) (sym (entry-before n (f n) rest) ∙ sym (listed-step f n s.keys c.loop-number-test.true))
          ∙ c.loop-number.invariant.so_far;
    }
