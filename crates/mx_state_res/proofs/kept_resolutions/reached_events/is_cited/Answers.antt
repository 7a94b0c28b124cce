use Rattle.std.proofs.Common.{◌≡◌, ◌<◌, ℕ, Some, length, subst, sym, true, ◌∙◌}
use Rattle.std.specs.Prelude.{IfSome}
use Rattle.mx_pdu.specs.StateKeys.{Key}
use Rattle.mx_graph.specs.Record.{is_in}
use Rattle.mx_graph.specs.Graph.{auth_chain}
use Rattle.mx_graph.proofs.Closure.{is_in-from, or_left}
use Rattle.mx_graph.specs.StateMap.{entry, events_of, key_cmp}
use Rattle.mx_orders.proofs.Members.{in_map}
use Rattle.mx_state_res.proofs.ChainLemmas.{chain-least}
use Rattle.mx_states.proofs.KnownLemmas.{find-known}
use Rattle.mx_state_res.proofs.NumberedConflictLemmas.{find-in}
use Rattle.mx_state_res.proofs.kept_resolutions.reached_events.is_cited.Goals as goal

pub is_cited_by-requires : goal.is_cited_by-requires
is_cited_by-requires c =
    subst (λ o. IfSome o (λ by. by < length c.args.graph.now)) (sym c.get-by.ensures) (find-known key_cmp (λ by. by < length c.args.graph.now) (c.kind.result.now, c.state_key.result.now) c.args.state.now c.requires)

pub returns-then-is_cited_by : goal.returns-then-is_cited_by
returns-then-is_cited_by c =
    let rows = c.args.graph.now in
    let state = c.args.state.now in
    let key : Key = (c.kind.result.now, c.state_key.result.now) in
    let r = c.is_cited_by.ensures c.if-is_cited_by.true in
    let there : is_in (events_of state) r.0 ≡ true = is_in-from r.0 (events_of state) (in_map (λ (e : Key × ℕ). e.1) (key, r.0) state (find-in key state r.0 (sym c.get-by.ensures ∙ r.1))) in
    λ _. (chain-least rows (events_of state) c.graph_is_sound.ensures).0 r.0 c.args.event (or_left (is_in (events_of state) r.0) (is_in (auth_chain rows (events_of state)) r.0) there) r.2
