use Rattle.std.proofs.Common.{◌≡◌, get_or, sym, subst, ◌∙◌, arith}
use Rattle.mx_pdu.specs.StateKeys.{Key}
use Rattle.mx_states.specs.KeyNumbers.{AreDistinct}
use Rattle.mx_states.proofs.KeyLemmas.{Sorted}
use Rattle.mx_states.proofs.KeyNumberLemmas.{with_key-distinct}
use Rattle.mx_states.proofs.ShownLemmas.{entries-more, entry_of}
use Rattle.mx_states.proofs.states.numbered_entries.entries_of.Goals as goal

pub returns-in_err-change_entry-clause-distinct : goal.returns-in_err-change_entry-clause-distinct
returns-in_err-change_entry-clause-distinct c = subst AreDistinct (sym c.in_ok-key.ensures.added) (with_key-distinct c.loop-entry.keys (c.kind.result.now, c.state_key.result.now) c.loop-entry.invariant.distinct)

pub loop-entry-preserved : goal.loop-entry-preserved
loop-entry-preserved c =
    let s = c.entries-entry-items.result.now in
    let key : Key = (c.kind.result.now, c.state_key.result.now) in
    let at : get_or s c.loop-entry.entry-index c.entry-item.result ≡ (key, c.event.result) =
    sym c.entry-item.is ∙ entry_of c.entry-item.result c.kind.result.now c.state_key.result.now c.event.result c.kind.ensures c.state_key.ensures c.event.ensures in
    entries-more c.args.keys.now c.loop-entry.keys c.number_for.new.self c.loop-entry.entries.items c.change_entry.new.entries.items s c.loop-entry.entry-index c.in_ok-key.key key c.event.result c.entry-item.result
    c.loop-entry.invariant c.in_ok-key.ensures.added c.in_ok-key.ensures.number c.in_ok-change_entry.ensures (subst Sorted (sym c.entries-entry-items.ensures.entries) c.entries-entry-items.ensures.sorted) (omega arith) at
