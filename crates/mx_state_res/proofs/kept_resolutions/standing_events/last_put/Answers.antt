use Rattle.std.proofs.Common.{◌≡◌, false, not, ap, sym, ◌∙◌}
use Rattle.std.specs.Prelude.{is_some}
use Rattle.mx_pdu.specs.StateKeys.{Key}
use Rattle.mx_graph.specs.StateMap.{entry}
use Rattle.mx_state_res.proofs.StandingLemmas.{never-put}
use Rattle.mx_state_res.proofs.TouchedLemmas.{none-put}
use Rattle.mx_state_res.proofs.kept_resolutions.standing_events.last_put.Goals as goal

pub returns-then-is_none-clause-last : goal.returns-then-is_none-clause-last
returns-then-is_none-clause-last c =
    let before = c.args.before.now in
    let rows = before.graph.now in
    let key : Key = (c.args.kind.now, c.args.state_key.now) in
    let lacks : is_some (entry before.put_keys.now key) ≡ false = ap is_some (sym c.get.ensures) ∙ c.is_none.ensures ∙ ap not c.if-is_none.true in
    sym (never-put rows key before.order.now (none-put rows before.put_keys.now key before.order.now lacks before.at_keys))
