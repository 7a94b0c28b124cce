use Rattle.std.proofs.Common.{◌≡◌, ◌<◌, ◌+◌, ◌∷◌, drop, get_or, length, ap, sym, subst, ◌∙◌, arith}
use Rattle.std.specs.FinMap.Entries.{find, put}
use Rattle.std.specs.Ordering.{nat_cmp}
use Rattle.std.proofs.lemmas.List.{drop_more}
use Rattle.mx_pdu.specs.StateKeys.{Key}
use Rattle.mx_graph.specs.StateMap.{key_cmp}
use Rattle.mx_states.specs.KeyNumbers.{key_at}
use Rattle.mx_states.specs.SnapshotEntries.{DifferAt, snapshot}
use Rattle.mx_states.proofs.KeyChangeLemmas.{differing-below, differing-put, key_of_texts, none-alike}
use Rattle.mx_states.proofs.states.numbered_entries.put_differing.Goals as goal
use Rattle.mx_states.proofs.states.numbered_entries.put_differing.Goals.{in-Some+in_ok-insert, in_default}

pub key-key-requires : goal.key-key-requires
key-key-requires c =
    subst (λ n. n < length c.args.keys.now) (sym c.number-item.is)
    (differing-below c.args.keys.now c.args.snapshots.now c.args.first c.args.other (get_or c.args.differing.now c.loop-number.number-index c.number-item.result) c.requires.shown
    (c.requires.differing c.loop-number.number-index c.number-item.result (omega arith)))

pub loop-number-preserved : goal.loop-number-preserved
loop-number-preserved c key =
    let i = c.loop-number.number-index in
    let numbers = c.args.differing.now in
    let n = c.number-item.result in
    let keys = c.args.keys.now in
    let d : drop i numbers ≡ n ∷ drop (i + 1) numbers = drop_more numbers i n (omega arith) ∙ ap (λ y. y ∷ drop (i + 1) numbers) (sym c.number-item.is) in
    elim c.match-event.branch [
      | in-Some+in_ok-insert w ↦
          let texts : key_at keys n ≡ (w.kind.result.now, w.state_key.result.now) =
          key_of_texts w.kind.result.now w.state_key.result.now (key_at keys n) (w.kind.ensures ∙ ap (λ (k : Key). k.0) w.key-key.ensures) (w.state_key.ensures ∙ ap (λ (k : Key). k.1) w.key-key.ensures) in
          let after : c.match-event.found ≡ put key_cmp (key_at keys n) w.in-Some.event c.loop-number.found =
          w.found-is ∙ w.in_ok-insert.ensures.ok ∙ ap (λ k. put key_cmp k w.in-Some.event c.loop-number.found) (sym texts) in
          differing-put keys c.loop-number.found c.match-event.found (drop i numbers) (drop (i + 1) numbers) n w.in-Some.event key d after ∙ c.loop-number.invariant key
      | in_default w ↦
          absurd (subst (λ m. DifferAt m (snapshot c.args.snapshots.now c.args.first) (snapshot c.args.snapshots.now c.args.other)) (sym c.number-item.is) (c.requires.differing i n (omega arith)) (none-alike (find nat_cmp n (snapshot c.args.snapshots.now c.args.first)) (find nat_cmp n (snapshot c.args.snapshots.now c.args.other)) (sym c.event_of_either-event.ensures ∙ w.in_default.is)))
    ]
