use Rattle.std.proofs.Common.{◌≡◌, ℕ, get_or, take, subst, sym, arith}
use Rattle.std.proofs.lemmas.List.{take_all}
use Rattle.std.proofs.lemmas.List.Elements.{All-more}
use Rattle.std.specs.List.{All}
use Rattle.mx_state_res.specs.TouchedKeys.{HasKeysOf}
use Rattle.mx_state_res.specs.declared.kept_resolutions.checked_events.CheckedEvent.{CheckedEvent}
use Rattle.mx_state_res.proofs.kept_resolutions.touched_keys.touched_keys.Goals as goal

pub loop-checked-preserved : goal.loop-checked-preserved
loop-checked-preserved c =
    let order = c.args.order.now in
    let i = c.loop-checked.checked-index in
    let P : CheckedEvent → Type 0 = HasKeysOf c.args.version c.args.graph.now c.add_keys.new.keys in
    All-more P order i c.checked-item.result (omega arith)
    (λ j d l. c.in_ok-add_keys.ensures.stay (get_or (take i order) j d) (c.loop-checked.invariant j d l)) (subst P c.checked-item.is c.in_ok-add_keys.ensures.added)

pub returns : goal.returns
returns c =
    subst (All (HasKeysOf c.args.version c.args.graph.now c.loop-checked.keys)) (take_all c.loop-checked.checked-index c.args.order.now (omega arith)) c.loop-checked.invariant
