use Rattle.std.proofs.Common.{◌≡◌, ◌<◌, length, sym, ◌∙◌, arith}
use Rattle.mx_pdu.specs.StateKeys.{Key}
use Rattle.mx_state_res.specs.KeptResolutions.{states_of}
use Rattle.mx_state_res.specs.Resolution.{unconflicted}
use Rattle.mx_state_res.proofs.StandingLemmas.{stays-not, stays-on, stays-untouched-from, was-put}
use Rattle.mx_state_res.proofs.kept_resolutions.checked_places.stays_behind.Goals as goal

pub returns-then-is_untouched : goal.returns-then-is_untouched
returns-then-is_untouched c =
    let checks = c.args.checks.now in
    let kept = checks.kept.now in
    let key : Key = (c.args.put.now.kind.now, c.args.put.now.state_key.now) in
    stays-untouched-from checks.version checks.graph.now key c.args.put.now.event kept.order.items (unconflicted (states_of checks.states.now kept)) c.requires.kept.checked c.args.place
    (c.is_untouched.ensures c.if-is_untouched.true)

pub is_judged_alike-requires-clause-was : goal.is_judged_alike-requires-clause-was
is_judged_alike-requires-clause-was c =
    let checks = c.args.checks.now in
    let kept = checks.kept.now in
    let order = kept.order.items in
    let key : Key = (c.args.put.now.kind.now, c.args.put.now.state_key.now) in
    let item = c.index-checked.result.now in
    let inside : c.loop-at.at < length order = omega arith in
    was-put checks.version checks.graph.now key c.args.put.now.event order (unconflicted (states_of checks.states.now kept)) c.requires.kept.checked c.loop-at.at item item inside c.index-checked.ensures

pub returns-then-is_put_at : goal.returns-then-is_put_at
returns-then-is_put_at c =
    let checks = c.args.checks.now in
    let kept = checks.kept.now in
    let order = kept.order.items in
    let key : Key = (c.args.put.now.kind.now, c.args.put.now.state_key.now) in
    let item = c.index-checked.result.now in
    let inside : c.loop-at.at < length order = omega arith in
    c.loop-at.invariant
    ∙ stays-not checks.version checks.graph.now key c.args.put.now.event order (unconflicted (states_of checks.states.now kept)) c.requires.kept.checked c.loop-at.at item item inside c.index-checked.ensures
    (c.in_ok-is_judged_alike.ensures c.if-not-branch.false) (sym c.is_put_at.ensures ∙ c.if-is_put_at.true)

pub loop-at-preserved : goal.loop-at-preserved
loop-at-preserved c =
    let checks = c.args.checks.now in
    let kept = checks.kept.now in
    let order = kept.order.items in
    let key : Key = (c.args.put.now.kind.now, c.args.put.now.state_key.now) in
    let item = c.index-checked.result.now in
    let inside : c.loop-at.at < length order = omega arith in
    c.loop-at.invariant
    ∙ stays-on checks.version checks.graph.now key c.args.put.now.event order (unconflicted (states_of checks.states.now kept)) c.requires.kept.checked c.loop-at.at item item inside c.index-checked.ensures
    (c.in_ok-is_judged_alike.ensures c.if-not-branch.false) (sym c.is_put_at.ensures ∙ c.if-is_put_at.false)
