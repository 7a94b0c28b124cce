use Rattle.std.proofs.Common.{◌≡◌, Some, ap, sym, subst, ◌∙◌}
use Rattle.std.specs.Prelude.{OnOk}
use Rattle.mx_pdu.specs.StateKeys.{Key}
use Rattle.mx_states.specs.KeyNumbers.{number_of, in_order, with_key}
use Rattle.mx_states.specs.Places.{IsAt, IsGapFor}
use Rattle.mx_states.proofs.KeyNumberLemmas.{number-at, number-none, with_key-old, numbered, added}
use Rattle.mx_states.proofs.states.state_keys.Keys.number_for.Goals as goal

pub returns-in-Ok-clause-number : goal.returns-in-Ok-clause-number
returns-in-Ok-clause-number c =
    let key : Key = (c.args.kind.now, c.args.state_key.now) in
    let at : IsAt key (in_order c.self.inside.keys.items c.self.inside.order.items) c.in-Ok.place = rw (← c.deref.ensures.value, ← c.deref-2.ensures.value) c.in-Ok.ensures.found in
    ap (λ ks. number_of ks key) (sym c.self.view_is)
    ∙ number-at c.self.inside.keys.items c.self.inside.order.items key c.in-Ok.place c.index.result.now c.self.invariant.ordered at ∙ ap Some (sym c.index.ensures)

pub returns-in-Ok-clause-added : goal.returns-in-Ok-clause-added
returns-in-Ok-clause-added c = with_key-old c.args.self.now (c.args.kind.now, c.args.state_key.now) _ (returns-in-Ok-clause-number c)

pub returns-in-Err-clause-number : goal.returns-in-Err-clause-number
returns-in-Err-clause-number c =
    let key : Key = (c.args.kind.now, c.args.state_key.now) in
    let gap : IsGapFor key (in_order c.self.inside.keys.items c.self.inside.order.items) c.in-Err.place = rw (← c.deref.ensures.value, ← c.deref-2.ensures.value) c.in-Err.ensures.absent in
    numbered c.add_key.result c.self.inside.keys.items c.add_key.new.keys.items key
    (number-none c.self.inside.keys.items c.self.inside.order.items key c.in-Err.place c.self.invariant.ordered gap) c.add_key.ensures.number c.add_key.ensures.added

pub returns-in-Err-clause-added : goal.returns-in-Err-clause-added
returns-in-Err-clause-added c =
    let key : Key = (c.args.kind.now, c.args.state_key.now) in
    let gap : IsGapFor key (in_order c.self.inside.keys.items c.self.inside.order.items) c.in-Err.place = rw (← c.deref.ensures.value, ← c.deref-2.ensures.value) c.in-Err.ensures.absent in
    subst (λ ks. OnOk c.add_key.result (c.add_key.new.keys.items ≡ with_key ks key)) c.self.view_is
    (added c.add_key.result c.self.inside.keys.items c.add_key.new.keys.items key
    (number-none c.self.inside.keys.items c.self.inside.order.items key c.in-Err.place c.self.invariant.ordered gap) c.add_key.ensures.added)
