use Rattle.std.proofs.Common.{◌||◌, sym, ◌∙◌, arith}
use Rattle.std.specs.Ordering.{eq_by_cmp}
use Rattle.mx_graph.specs.StateMap.{key_cmp}
use Rattle.mx_states.specs.KeyNumbers.{key_at}
use Rattle.mx_states.proofs.SharedEventLemmas.{some-more}
use Rattle.mx_states.proofs.states.shared_events.numbers_of.Goals as goal

pub loop-entry-preserved : goal.loop-entry-preserved
loop-entry-preserved c n l =
    let entries = c.entries-entry-items.result.now in
    let i = c.loop-entry.entry-index in
    c.in_ok-add_number.ensures n l
    ∙ (λ j. c.loop-entry.invariant n l j || eq_by_cmp key_cmp (key_at c.args.keys.now n) (c.kind.ensures j, c.state_key.ensures j))
    ∙ sym (some-more entries i c.entry-item.result (key_at c.args.keys.now n) (omega (arith, c.loop-entry-test.true)) c.entry-item.is)
