use Rattle.std.proofs.Common.{◌≡◌, ◌+◌, ◌∷◌, Some, None, drop, ap, sym, ◌∙◌, arith}
use Rattle.std.specs.FinMap.Entries.{put}
use Rattle.std.proofs.lemmas.List.{drop_all, drop_more}
use Rattle.mx_pdu.specs.StateKeys.{Key}
use Rattle.mx_graph.specs.StateMap.{key_cmp}
use Rattle.mx_states.specs.KeyNumbers.{key_at}
use Rattle.mx_states.proofs.KeyChangeLemmas.{key_of_texts}
use Rattle.mx_states.proofs.ShownLemmas.{walked, walked-step, walked-is}
use Rattle.mx_states.proofs.states.numbered_entries.map_of.Goals as goal
use Rattle.mx_states.proofs.states.numbered_entries.map_of.Goals.{in-Some+in_ok-insert, in_default}

pub loop-number-preserved : goal.loop-number-preserved
loop-number-preserved c =
    let i = c.loop-number.number-index in
    let numbers = c.in_order-number-items.result.now in
    let n = c.number-item.result in
    let keys = c.args.keys.now in
    let d : drop i numbers ≡ n ∷ drop (i + 1) numbers = drop_more numbers i n (omega arith) ∙ ap (λ y. y ∷ drop (i + 1) numbers) (sym c.number-item.is) in
    elim c.match-value_in.branch [
      | in-Some+in_ok-insert w ↦
          let texts : key_at keys n ≡ (w.kind.result.now, w.state_key.result.now) =
          key_of_texts w.kind.result.now w.state_key.result.now (key_at keys n) (w.kind.ensures ∙ ap (λ (k : Key). k.0) w.key-key.ensures) (w.state_key.ensures ∙ ap (λ (k : Key). k.1) w.key-key.ensures) in
          let after : c.match-value_in.map ≡ put key_cmp (key_at keys n) w.in-Some.event c.loop-number.map =
          w.map-is ∙ w.in_ok-insert.ensures.ok ∙ ap (λ k. put key_cmp k w.in-Some.event c.loop-number.map) (sym texts) in
          walked-step keys c.args.entries.now (drop i numbers) (drop (i + 1) numbers) n (Some w.in-Some.event) c.loop-number.map c.match-value_in.map d (sym c.value_in.ensures ∙ w.in-Some.is) after
          ∙ c.loop-number.invariant
      | in_default w ↦
          walked-step keys c.args.entries.now (drop i numbers) (drop (i + 1) numbers) n None c.loop-number.map c.match-value_in.map d (sym c.value_in.ensures ∙ w.in_default.is) w.map-is
          ∙ c.loop-number.invariant
    ]

pub returns : goal.returns
returns c =
    let numbers = c.in_order-number-items.result.now in
    ap (λ ns. walked c.args.keys.now c.args.entries.now ns c.loop-number.map) (sym (drop_all c.loop-number.number-index numbers (omega arith)))
    ∙ c.loop-number.invariant ∙ walked-is c.args.keys.now c.args.entries.now numbers c.requires.distinct c.requires.below c.in_order-number-items.ensures
