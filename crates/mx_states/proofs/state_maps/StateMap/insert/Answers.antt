use Rattle.std.proofs.Common.{◌≡◌, ℕ, ap, sym, subst, set, ◌∙◌}
use Rattle.std.specs.List.{insert}
use Rattle.std.specs.FinMap.Entries.{put}
use Rattle.mx_pdu.specs.StateKeys.{Key}
use Rattle.mx_graph.specs.StateMap.{State, key_cmp}
use Rattle.mx_states.specs.Places.{IsAt, IsGapFor}
use Rattle.mx_states.proofs.KeyLemmas.{Sorted}
use Rattle.mx_states.proofs.PlaceLemmas.{put-at, put-gap, sorted-put}
use Rattle.mx_states.proofs.state_maps.StateMap.insert.Goals as goal

-- the event at the key is written over
pub invariant_of-self : goal.invariant_of-self
invariant_of-self c =
    let key : Key = (c.args.kind.now, c.args.state_key.now) in
    let s : State = c.self.inside.entries.items in
    let at : IsAt key s c.in-Ok.place = rw (← c.deref.ensures.value) c.in-Ok.ensures.found in
    let is_put : set s c.in-Ok.place c.set_event.new.self ≡ put key_cmp key c.args.event s =
    ap (set s c.in-Ok.place) (c.set_event.ensures ∙ ap (λ (e : Key × ℕ). (e.0, c.args.event)) c.index_mut.ensures.value)
    ∙ put-at s key c.args.event c.in-Ok.place c.index_mut.result.now c.self.invariant at in
    subst Sorted (sym is_put) (sorted-put key c.args.event s c.self.invariant)

pub returns-in-Ok-clause-ok : goal.returns-in-Ok-clause-ok
returns-in-Ok-clause-ok c =
    let key : Key = (c.args.kind.now, c.args.state_key.now) in
    let s : State = c.self.inside.entries.items in
    let at : IsAt key s c.in-Ok.place = rw (← c.deref.ensures.value) c.in-Ok.ensures.found in
    ap (set s c.in-Ok.place) (c.set_event.ensures ∙ ap (λ (e : Key × ℕ). (e.0, c.args.event)) c.index_mut.ensures.value)
    ∙ put-at s key c.args.event c.in-Ok.place c.index_mut.result.now c.self.invariant at ∙ ap (put key_cmp key c.args.event) c.self.view_is

-- the entry is added in the gap
pub invariant_of-self-in-Continue-branch-2 : goal.invariant_of-self-in-Continue-branch-2
invariant_of-self-in-Continue-branch-2 c =
    let key : Key = (c.args.kind.now, c.args.state_key.now) in
    let s : State = c.self.inside.entries.items in
    let gap : IsGapFor key s c.in-Err.place = rw (← c.deref.ensures.value) c.in-Err.ensures.absent in
    let is_put : c.insert.new.self.items ≡ put key_cmp key c.args.event s =
    c.in_ok-insert-in-Err.ensures.items ∙ ap (insert s c.in-Err.place) c.in_ok-entry-in-Err.ensures ∙ put-gap s key c.args.event c.in-Err.place gap in
    subst Sorted (sym is_put) (sorted-put key c.args.event s c.self.invariant)

pub returns-in_ok-insert-in-Err-clause-ok : goal.returns-in_ok-insert-in-Err-clause-ok
returns-in_ok-insert-in-Err-clause-ok c =
    let key : Key = (c.args.kind.now, c.args.state_key.now) in
    let s : State = c.self.inside.entries.items in
    let gap : IsGapFor key s c.in-Err.place = rw (← c.deref.ensures.value) c.in-Err.ensures.absent in
    c.in_ok-insert-in-Err.ensures.items ∙ ap (insert s c.in-Err.place) c.in_ok-entry-in-Err.ensures ∙ put-gap s key c.args.event c.in-Err.place gap
    ∙ ap (put key_cmp key c.args.event) c.self.view_is
