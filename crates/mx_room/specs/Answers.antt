-- For proofs and private clauses alone.
-- The answer to a query that the room answers to the server.
use Rattle.std.specs.Prelude.{ℕ, ◌==◌, Bool, true, false, ◌&&◌, ◌||◌, not, nat_le, slice_index_or, List, [], ◌∷◌, length, codes, bytes_eq, is_none, option_map}
use Rattle.std.specs.List.{list_any}
use Rattle.mx_ident.specs.Identifier.{server_of}
use Rattle.mx_pdu.specs.StateKeys.{Key}
use Rattle.mx_auth.specs.Rules.{rules}
use Rattle.mx_auth.specs.Versions.{version_text}
use Rattle.mx_pdu.specs.Event.{depth_of}
use Rattle.mx_graph.specs.Record.{Row, row, event, place_of, events_where, is_in}
use Rattle.mx_graph.specs.Graph.{ancestors}
use Rattle.mx_graph.specs.StateMap.{events_of}
use Rattle.mx_receipt.specs.Receipt.{Kept, rows_of, state_before}
use Rattle.mx_room.specs.Queries.{Answered, all_served, backfill, chain_by_id, event_shown, events_reply, given_or, held, if_standing, current_view, join_template, missing_events, room_version, state_ids_reply, state_reply, template_by, unless}
use Rattle.mx_room.specs.declared.queries.Query.{Query}
use Rattle.mx_room.specs.declared.queries.Query.TheVariants as ask
use Rattle.mx_room.specs.declared.queries.QueryReply.TheVariants as gives
use Rattle.mx_room.specs.declared.queries.Denied.TheVariants.{NotFound, OtherServer, WrongVersion}

abbrev pub event_answer : List Kept → List ℕ → List ℕ → Answered
event_answer kept origin id = given_or NotFound (option_map gives.Event (event_shown kept origin id))

abbrev pub state_answer : List Kept → List ℕ → Answered
state_answer kept id = if_standing kept id (λ p. state_reply kept (events_of (state_before kept p)))

abbrev pub state_ids_answer : List Kept → List ℕ → Answered
state_ids_answer kept id = if_standing kept id (λ p. state_ids_reply kept (events_of (state_before kept p)))

abbrev pub event_auth_answer : List Kept → List ℕ → Answered
event_auth_answer kept id = if_standing kept id (λ p. gives.EventAuth (all_served kept (chain_by_id (rows_of kept) (p ∷ []))))

abbrev pub backfill_answer : List Kept → List ℕ → List (List ℕ) → ℕ → Answered
backfill_answer kept origin from limit =
    unless (length (held (rows_of kept) from) == 0) NotFound (events_reply kept origin (backfill (rows_of kept) from limit))

abbrev pub missing_answer : List Kept → List ℕ → List (List ℕ) → List (List ℕ) → ℕ → ℕ → Answered
missing_answer kept origin earliest latest limit min_depth =
    events_reply kept origin (missing_events (rows_of kept) earliest latest limit min_depth)

-- the keys of a state that a join of a user of its own needs
abbrev pub join_keys : List ℕ → List Key
join_keys user =
    (codes "m.room.create", []) ∷ (codes "m.room.power_levels", []) ∷ (codes "m.room.member", user)
    ∷ (codes "m.room.join_rules", []) ∷ []

-- the user is of the server, which knows the room's version, and the rules allow the join in the current state
abbrev pub join_answer : List Kept → List ℕ → ℕ → List ℕ → List ℕ → List (List ℕ) → Answered
join_answer kept origin now room user versions =
    let version = room_version kept in
    let template = join_template kept now room user in
    unless (not (bytes_eq (server_of user) origin)) OtherServer
    (unless (not (list_any (bytes_eq (version_text version)) versions)) (WrongVersion version)
    (template_by version (rules version template (current_view kept)) template))

abbrev pub allowed_answer : List Kept → List ℕ → ℕ → Query → Answered
allowed_answer kept origin now (ask.Event id) = event_answer kept origin id
allowed_answer kept origin now (ask.State room id) = state_answer kept id
allowed_answer kept origin now (ask.StateIds room id) = state_ids_answer kept id
allowed_answer kept origin now (ask.EventAuth room id) = event_auth_answer kept id
allowed_answer kept origin now (ask.Backfill room from limit) = backfill_answer kept origin from limit
allowed_answer kept origin now (ask.Missing room earliest latest limit min_depth) = missing_answer kept origin earliest latest limit min_depth
allowed_answer kept origin now (ask.MakeJoin room user versions) = join_answer kept origin now room user versions

-- it is asked by servers in the room alone
abbrev pub is_for_members : Query → Bool
is_for_members (ask.Event id) = false
is_for_members (ask.State room id) = true
is_for_members (ask.StateIds room id) = true
is_for_members (ask.EventAuth room id) = true
is_for_members (ask.Backfill room from limit) = true
is_for_members (ask.Missing room earliest latest limit min_depth) = true
is_for_members (ask.MakeJoin room user versions) = false

-- it asks by its id alone for an event that the room does not hold
abbrev pub asks_unheld : List Kept → Query → Bool
asks_unheld kept (ask.Event id) = is_none (place_of (rows_of kept) id)
asks_unheld kept _ = false

-- ---- marks, one for each event of a record

abbrev pub is_marked : List Bool → ℕ → Bool
is_marked marks p = slice_index_or marks p false

-- what lies behind the latest events and not behind the earliest ones
abbrev pub behind : List Row → List (List ℕ) → List (List ℕ) → ℕ → List ℕ
behind rows earliest latest min_depth =
    let ends = held rows latest in
    let known_ones = held rows earliest in
    let before = ancestors rows ends in
    let before_known = ancestors rows known_ones in
    events_where rows
    (λ p. is_in before p && not (is_in ends p || is_in known_ones p || is_in before_known p)
    && nat_le min_depth (depth_of (event rows p)) && not (row rows p).rejected)

-- a marked event that is at least so deep and was not rejected
abbrev pub is_taken : List Row → List Bool → ℕ → ℕ → Bool
is_taken rows marks min_depth p = is_marked marks p && (nat_le min_depth (depth_of (event rows p)) && not (row rows p).rejected)
