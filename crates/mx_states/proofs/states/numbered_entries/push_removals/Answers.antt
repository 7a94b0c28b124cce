use Rattle.std.proofs.Common.{◌≡◌, None, get_or, sym, subst, ◌∙◌, arith, refl}
use Rattle.mx_pdu.specs.StateKeys.{Key}
use Rattle.mx_states.specs.KeyNumbers.{AreDistinct}
use Rattle.mx_states.proofs.KeyNumberLemmas.{with_key-distinct}
use Rattle.mx_states.proofs.ShownLemmas.{entry_of}
use Rattle.mx_states.proofs.KeyChangeLemmas.{changes-more}
use Rattle.mx_states.proofs.states.numbered_entries.push_removals.Goals as goal

pub returns-in_err-push-clause-distinct : goal.returns-in_err-push-clause-distinct
returns-in_err-push-clause-distinct c = subst AreDistinct (sym c.in_ok-key.ensures.added) (with_key-distinct c.loop-entry.keys (c.kind.result.now, c.state_key.result.now) c.loop-entry.invariant.distinct)

pub loop-entry-preserved : goal.loop-entry-preserved
loop-entry-preserved c =
    let s = c.entries-entry-items.result.now in
    let key : Key = (c.kind.result.now, c.state_key.result.now) in
    let at : get_or s c.loop-entry.entry-index c.entry-item.result ≡ (key, c.entry-item.result.1) =
    sym c.entry-item.is ∙ entry_of c.entry-item.result c.kind.result.now c.state_key.result.now c.entry-item.result.1 c.kind.ensures c.state_key.ensures refl in
    changes-more c.args.keys.now c.loop-entry.keys c.number_for.new.self c.args.changes.now.items c.loop-entry.changes.items c.push.new.self.items (λ v. None) s c.loop-entry.entry-index c.in_ok-key.key key c.entry-item.result.1 c.entry-item.result
    c.loop-entry.invariant c.in_ok-key.ensures.added c.in_ok-key.ensures.number c.in_ok-push.ensures.items (omega arith) at
