use Rattle.std.proofs.Common.{◌≡◌, ℕ, subst, sym, true}
use Rattle.std.specs.Prelude.{IfSome}
use Rattle.mx_graph.specs.Record.{is_in}
use Rattle.mx_graph.specs.Graph.{auth_chain}
use Rattle.mx_graph.proofs.Closure.{is_in-to, or_left, or_right}
use Rattle.mx_graph.specs.StateMap.{events_of}
use Rattle.mx_state_res.specs.KeptResolutions.{CitesReached, events_checked}
use Rattle.mx_state_res.specs.LaterResolution.{is_reached}
use Rattle.mx_state_res.proofs.ChainLemmas.{chain-least}
use Rattle.mx_state_res.proofs.SetLemmas.{all-at}
use Rattle.mx_state_res.proofs.kept_resolutions.reached_events.cites_reached.Goals as goal

pub returns-then-is_cited : goal.returns-then-is_cited
returns-then-is_cited c =
    let rows = c.args.graph.now in
    let events = events_of c.args.other.now in
    λ yes. subst (λ o. IfSome o (CitesReached rows (events_checked c.args.order.now) c.args.other.now)) (sym c.in-Some.is) (λ q m. or_left (is_in (auth_chain rows events) q) _
    ((chain-least rows events c.graph_is_sound.ensures).0 c.in-Some.event q (or_right (is_in events c.in-Some.event) (is_in (auth_chain rows events) c.in-Some.event) (c.is_cited.ensures c.if-is_cited.true)) m))

pub returns : goal.returns
returns c =
    let P : ℕ → Type 0 = λ event. is_reached c.args.graph.now (events_checked c.args.order.now) c.args.other.now event ≡ true in
    λ yes. subst (λ o. IfSome o (CitesReached c.args.graph.now (events_checked c.args.order.now) c.args.other.now)) (sym c.in-Some.is) (λ q m. all-at P c.auth_events-cited.result.now (c.reaches_each.ensures yes) q (is_in-to q c.auth_events-cited.result.now (subst (λ ps. is_in ps q ≡ true) (sym c.auth_events-cited.ensures.cited) m)))
