use Rattle.std.proofs.Common.{Some, ap, sym, ◌∙◌}
use Rattle.mx_pdu.specs.StateKeys.{Key}
use Rattle.mx_states.specs.KeyNumbers.{number_of, in_order}
use Rattle.mx_states.specs.Places.{IsAt, IsGapFor}
use Rattle.mx_states.proofs.KeyNumberLemmas.{number-at, number-none}
use Rattle.mx_states.proofs.states.state_keys.Keys.number_of.Goals as goal

pub returns-in-Ok : goal.returns-in-Ok
returns-in-Ok c =
    let key : Key = (c.args.kind.now, c.args.state_key.now) in
    let at : IsAt key (in_order c.self.inside.keys.items c.self.inside.order.items) c.in-Ok.place = rw (← c.deref.ensures.value, ← c.deref-2.ensures.value) c.in-Ok.ensures.found in
    ap Some c.index.ensures ∙ sym (number-at c.self.inside.keys.items c.self.inside.order.items key c.in-Ok.place c.index.result.now c.self.invariant.ordered at)
    ∙ ap (λ ks. number_of ks key) c.self.view_is

pub returns-in-Err : goal.returns-in-Err
returns-in-Err c =
    let key : Key = (c.args.kind.now, c.args.state_key.now) in
    let gap : IsGapFor key (in_order c.self.inside.keys.items c.self.inside.order.items) c.in-Err.field-0 = rw (← c.deref.ensures.value, ← c.deref-2.ensures.value) c.in-Err.ensures.absent in
    sym (number-none c.self.inside.keys.items c.self.inside.order.items key c.in-Err.field-0 c.self.invariant.ordered gap) ∙ ap (λ ks. number_of ks key) c.self.view_is
