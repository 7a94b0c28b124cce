use Rattle.std.proofs.Common.{◌≡◌, ℕ, true, List, map, subst, arith, Vec}
use Rattle.std.proofs.lemmas.List.{take_all}
use Rattle.std.proofs.lemmas.List.Elements.{All-more}
use Rattle.std.specs.List.{All, list_all}
use Rattle.std.specs.declared.alloc.Global.{Global}
use Rattle.mx_graph.specs.Graph.{auth_chain}
use Rattle.mx_graph.specs.Record.{Row, is_in}
use Rattle.mx_state_res.proofs.conflicts.cited_events.are_in_each_chain.Goals as goal

abbrev InEach : List Row → List (Vec ℕ Global) → ℕ → Type 0
InEach rows sets event = list_all (λ others. is_in (auth_chain rows others) event) (map (λ (v : Vec ℕ Global). v.items) sets) ≡ true

pub loop-event-preserved : goal.loop-event-preserved
loop-event-preserved c =
    let P : ℕ → Type 0 = InEach c.args.graph.now c.args.sets.now in
    All-more P c.args.events.now c.loop-event.event-index c.event-item.result (omega arith) c.loop-event.invariant
    (subst P c.event-item.is (c.is_in_each_chain.ensures c.if-not-is_in_each_chain.false))

pub returns : goal.returns
returns c = λ yes. subst (All (InEach c.args.graph.now c.args.sets.now)) (take_all c.loop-event.event-index c.args.events.now (omega arith)) c.loop-event.invariant
