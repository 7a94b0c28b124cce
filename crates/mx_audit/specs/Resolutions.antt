-- Which states the state before an event was resolved of (Matrix specification, Server-Server API, PDUs).
use Rattle.std.specs.Prelude.{ℕ, List, map}
use Rattle.mx_graph.specs.Record.{event, events_where, is_in, prev_events}
use Rattle.mx_graph.specs.StateMap.{State}
use Rattle.mx_receipt.specs.Receipt.{Kept, rows_of, state_after}

-- the states after its prev events, each once
unfoldable pub states_before : List Kept → ℕ → List State
states_before kept p =
    let rows = rows_of kept in
    map (state_after kept) (events_where rows (is_in (prev_events rows (event rows p))))
