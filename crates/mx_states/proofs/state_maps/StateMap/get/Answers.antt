use Rattle.std.proofs.Common.{ℕ, Some, ap, sym, ◌∙◌}
use Rattle.mx_pdu.specs.StateKeys.{Key}
use Rattle.mx_graph.specs.StateMap.{entry}
use Rattle.mx_states.specs.Places.{IsAt}
use Rattle.mx_states.proofs.PlaceLemmas.{find-at, find-gap}
use Rattle.mx_states.proofs.state_maps.StateMap.get.Goals as goal

-- the event that was read stands at the key
pub returns-in-Ok : goal.returns-in-Ok
returns-in-Ok c =
    let key : Key = (c.args.kind.now, c.args.state_key.now) in
    let at : IsAt key c.self.inside.entries.items c.in-Ok.place = rw (← c.deref.ensures.value) c.in-Ok.ensures.found in
    ap Some (c.event.ensures ∙ ap (λ (e : Key × ℕ). e.1) c.index.ensures)
    ∙ sym (find-at c.self.inside.entries.items key c.in-Ok.place c.index.result.now c.self.invariant at)
    ∙ ap (λ s. entry s key) c.self.view_is

-- the key is not there
pub returns-in-Err : goal.returns-in-Err
returns-in-Err c =
    let key : Key = (c.args.kind.now, c.args.state_key.now) in
    sym (find-gap _ key _ c.in-Err.ensures.absent) ∙ ap (λ s. entry s key) (c.deref.ensures.value ∙ c.self.view_is)
