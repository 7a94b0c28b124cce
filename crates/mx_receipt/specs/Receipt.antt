-- Checks performed on receipt of a PDU, forward extremities and room state (Matrix specification, Server-Server API).
use Rattle.std.specs.Prelude.{◌≡◌, ◌<◌, ℕ, zero, suc, nat_le, Bool, true, false, not, if◌then◌else◌, List, [], ◌∷◌, ◌++◌, codes, map, length, take, slice_index_or, filter, unwrap_or, Option, None, Some, is_some, is_none}
use Rattle.std.specs.Option.{option_or}
use Rattle.std.specs.List.{list_any}
use Rattle.serde_json.specs.Data.{null}
use Rattle.mx_ident.specs.Identifier.{refuse_if}
use Rattle.mx_redact.specs.Fields.{Event}
use Rattle.mx_pdu.specs.Event.{has_kind, prev_ids, auth_ids}
use Rattle.mx_auth.specs.Rules.{rules, auth_rules}
use Rattle.mx_auth.specs.Versions.{version_of}
use Rattle.mx_auth.specs.declared.versions.RoomVersion.{RoomVersion}
use Rattle.mx_auth.specs.declared.versions.RoomVersion.TheVariants.{V6}
use Rattle.mx_auth.specs.declared.refusals.Rule.{Rule}
use Rattle.mx_graph.specs.Adding.{most_rows}
use Rattle.mx_graph.specs.Record.{Row, event, row, place_of, events_where, is_in, prev_events, auth_events}
use Rattle.mx_graph.specs.Graph.{ancestors}
use Rattle.mx_graph.specs.StateMap.{State}
use Rattle.mx_orders.specs.StateMap.{view, state_of, with_event}
use Rattle.mx_state_res.specs.Resolution.{resolve}
use Rattle.mx_receipt.specs.declared.verdicts.Verdict.{Verdict}
use Rattle.mx_receipt.specs.declared.verdicts.Verdict.TheVariants.{Accepted, SoftFailed, Rejected}
use Rattle.mx_receipt.specs.declared.refusals.NotReceived.{NotReceived}
use Rattle.mx_receipt.specs.declared.refusals.NotReceived.TheVariants.{Known, SecondCreate, MissingEvents, RoomFull}

abbrev pub is_accepted : Verdict → Bool
is_accepted Accepted = true
is_accepted (SoftFailed rule) = false
is_accepted (Rejected rule) = false

abbrev pub is_rejected : Verdict → Bool
is_rejected Accepted = false
is_rejected (SoftFailed rule) = false
is_rejected (Rejected rule) = true

-- an event as kept, and its verdict
pub record Kept : Type 0 where
  pub id : List ℕ
  pub event : Event
  pub verdict : Verdict

-- the record that the events make
abbrev pub rows_of : List Kept → List Row
rows_of = map (λ k. record { id = k.id; event = k.event; rejected = is_rejected k.verdict })

abbrev pub kept_at : List Kept → ℕ → Kept
kept_at kept p = slice_index_or kept p (record { id = []; event = null; verdict = Accepted })

-- ---- The version of a room (Matrix specification, m.room.create)

-- the version that a create event names; where it names none that is recognised, 6, which no hosted room asks
abbrev pub created_version : Event → RoomVersion
created_version create = unwrap_or (version_of create) V6

-- the version of a record's room: that of the event that begins it
abbrev pub version_in : List Row → RoomVersion
version_in [] = V6
version_in (r ∷ rows) = created_version r.event

-- what states resolve to, by the version of the record's room
abbrev pub resolve_in : List Row → List State → State
resolve_in rows states = resolve (version_in rows) rows states

-- ---- The state before and after an event (Matrix specification, Server-Server API, PDUs; State Resolution v2)

-- the states after some events, of the states after all, in order
abbrev pub states_at : List State → List ℕ → List State
states_at states = map (λ p. slice_index_or states p [])

-- the state before an event that comes next, from the states after all events so far: those after its prev events, each once, resolved
unfoldable pub before_event : List Row → List State → Event → State
before_event rows states e = resolve_in rows (states_at states (events_where rows (is_in (prev_events rows e))))

-- the state with the event at its key, where it is a state event and not rejected
abbrev pub with_kept : State → Kept → ℕ → State
with_kept s k p = if is_rejected k.verdict then s else with_event s k.event p

-- the states after the first n events, each worked out from those that came before it
abbrev pub states_after : List Kept → ℕ → List State
states_after kept zero = []
states_after kept (suc n) =
    let states = states_after kept n in
    states ++ with_kept (before_event (rows_of (take n kept)) states (kept_at kept n).event) (kept_at kept n) n ∷ []

unfoldable pub state_before : List Kept → ℕ → State
state_before kept p = before_event (rows_of (take p kept)) (states_after kept p) (kept_at kept p).event

unfoldable pub state_after : List Kept → ℕ → State
state_after kept p = with_kept (state_before kept p) (kept_at kept p) p

-- the state before an event that comes next
unfoldable pub state_before_next : List Kept → Event → State
state_before_next kept e = before_event (rows_of kept) (states_after kept (length kept)) e

-- ---- Forward extremities and the current state

-- the accepted events that are no ancestors of accepted events
unfoldable pub forward_extremities : List Kept → List ℕ
forward_extremities kept =
    let rows = rows_of kept in
    let accepted_events = events_where rows (λ p. is_accepted (kept_at kept p).verdict) in
    let before = ancestors rows accepted_events in
    filter (λ p. not (is_in before p)) accepted_events

-- the resolution of the states after the forward extremities
unfoldable pub current_state : List Kept → State
current_state kept =
    let states = states_after kept (length kept) in
    resolve_in (rows_of kept) (states_at states (forward_extremities kept))

-- ---- Checks performed on receipt of a PDU

-- check 4: the event's auth events, and then the rules on the state that they make
unfoldable pub auth_failure : List Row → Event → Option Rule
auth_failure rows e =
    option_or (auth_rules (version_in rows) e (map (λ p. record { event = event rows p; rejected = (row rows p).rejected }) (auth_events rows e)))
    (rules (version_in rows) e (view rows (state_of rows (auth_events rows e))))

abbrev pub accept_or : (Rule → Verdict) → Option Rule → Verdict → Verdict
accept_or fails None next = next
accept_or fails (Some rule) next = fails rule

-- checks 4, 5 and 6: by its auth events, by the state before it, and by the current state
unfoldable pub verdict : List Kept → Event → Verdict
verdict kept e =
    let rows = rows_of kept in
    accept_or Rejected (auth_failure rows e)
    (accept_or Rejected (rules (version_in rows) e (view rows (state_before_next kept e)))
    (accept_or SoftFailed (rules (version_in rows) e (view rows (current_state kept))) Accepted))

-- each event but the first is under the verdict that the events before it give it
abbrev pub AreJudged : List Kept → Type 0
AreJudged kept = (p : ℕ) → 0 < p → p < length kept → (kept_at kept p).verdict ≡ verdict (take p kept) (kept_at kept p).event

-- the event under its verdict
abbrev pub judged : List Kept → List ℕ → Event → Kept
judged kept id e = record { id = id; event = e; verdict = verdict kept e }

-- the record with the event, under its verdict
abbrev pub received : List Kept → List ℕ × Event → List Kept
received kept (id, e) = kept ++ judged kept id e ∷ []

-- the record with the event that is prepared
abbrev pub installed : List Kept → Option Kept → List Kept
installed kept None = kept
installed kept (Some k) = kept ++ k ∷ []

-- an event that it follows or rests on isn't held
abbrev pub lacks_cited : List Row → Event → Bool
lacks_cited rows e = list_any (λ id. is_none (place_of rows id)) (prev_ids e ++ auth_ids e)

-- why a record does not take an event, in the order in which it is asked
unfoldable pub offer_error : List Row → List ℕ → Event → Option NotReceived
offer_error rows id e =
    refuse_if (is_some (place_of rows id)) Known
    (refuse_if (has_kind (codes "m.room.create") e) SecondCreate
    (refuse_if (lacks_cited rows e) MissingEvents
    (refuse_if (nat_le most_rows (length rows)) RoomFull None)))

-- ---- The first event

-- the record that a create event begins
abbrev pub begun : List ℕ → Event → List Kept
begun id e = record { id = id; event = e; verdict = Accepted } ∷ []
