-- The queries of a room and their answers (Matrix specification, Server-Server API, retrieving events, backfilling and
-- retrieving missing events, and joining rooms).
use Rattle.std.specs.Prelude.{ℕ, ◌+◌, nat_le, min, ◌==◌, Bool, not, ◌&&◌, ◌||◌, if◌then◌else◌, List, [], ◌∷◌, length, map, filter_map, take, codes, bytes_eq, Option, None, Some, option_map, option_and_then, Result, Ok, Err}
use Rattle.std.specs.declared.cmp.Ordering.{Ordering}
use Rattle.std.specs.Ordering.{then_cmp, flip_args, on, nat_cmp}
use Rattle.std.specs.Cmp.Lexicographic.{slice_cmp}
use Rattle.std.specs.List.{list_any}
use Rattle.serde_json.specs.Data.{Items, no_items, item, no_members, member, string, array, object, number, unsigned}
use Rattle.mx_canon.specs.Canonical.{largest}
use Rattle.mx_ident.specs.Identifier.{server_of}
use Rattle.mx_redact.specs.Fields.{Event}
use Rattle.mx_pdu.specs.Event.{depth_of}
use Rattle.mx_auth.specs.Rules.{needed_keys, rules}
use Rattle.mx_auth.specs.StateView.{StateView}
use Rattle.mx_auth.specs.Versions.{version_text}
use Rattle.mx_auth.specs.declared.versions.RoomVersion.{RoomVersion}
use Rattle.mx_auth.specs.declared.refusals.Rule.{Rule}
use Rattle.mx_graph.specs.Depths.{greatest_depth}
use Rattle.mx_graph.specs.Record.{Row, row, event, place_of, events_where, is_in}
use Rattle.mx_graph.specs.Graph.{ancestors, auth_chain}
use Rattle.mx_orders.specs.Mainline.{sorted}
use Rattle.mx_graph.specs.StateMap.{entry, events_of}
use Rattle.mx_orders.specs.StateMap.{view}
use Rattle.mx_receipt.specs.Receipt.{Kept, rows_of, version_in, state_before, current_state, forward_extremities}
use Rattle.mx_access.specs.Acl.{acl_allows}
use Rattle.mx_access.specs.Access.{in_room, served, shown}
use Rattle.mx_room.specs.declared.queries.Query.{Query}
use Rattle.mx_room.specs.declared.queries.Query.TheVariants as ask
use Rattle.mx_room.specs.declared.queries.QueryReply.{QueryReply}
use Rattle.mx_room.specs.declared.queries.QueryReply.TheVariants as gives
use Rattle.mx_room.specs.declared.queries.Denied.{Denied}
use Rattle.mx_room.specs.declared.queries.Denied.TheVariants.{AccessList, NotInRoom, NotFound, OtherServer, WrongVersion}
use Rattle.mx_room.specs.declared.queries.Denied.TheVariants as denied

-- the room that a query names
abbrev pub room_named : Query → Option (List ℕ)
room_named (ask.Event id) = None
room_named (ask.State room id) = Some room
room_named (ask.StateIds room id) = Some room
room_named (ask.EventAuth room id) = Some room
room_named (ask.Backfill room from limit) = Some room
room_named (ask.Missing room earliest latest limit min_depth) = Some room
room_named (ask.MakeJoin room user versions) = Some room

-- ---- sets of events, in an order; the orders are our own

abbrev pub ids_of : List Row → List ℕ → List (List ℕ)
ids_of rows ps = map (λ p. (row rows p).id) ps

abbrev pub id_rising : List Row → ℕ → ℕ → Ordering
id_rising rows = on (λ p. (row rows p).id) (slice_cmp nat_cmp)

abbrev pub depth_rising : List Row → ℕ → ℕ → Ordering
depth_rising rows = then_cmp (on (λ p. depth_of (event rows p)) nat_cmp) (id_rising rows)

-- depth falling, and then id rising
abbrev pub depth_falling : List Row → ℕ → ℕ → Ordering
depth_falling rows = then_cmp (flip_args (on (λ p. depth_of (event rows p)) nat_cmp)) (id_rising rows)

-- the held ones of these ids
abbrev pub held : List Row → List (List ℕ) → List ℕ
held rows ids = filter_map (place_of rows) ids

-- the auth chains of these events in one list, ids rising
abbrev pub chain_by_id : List Row → List ℕ → List ℕ
chain_by_id rows ps = sorted (id_rising rows) (auth_chain rows ps)

-- Server-Server API, backfill: these events and their ancestors, without the rejected ones, the deepest first; a limit over
-- 100 is 100 (the limit is our own)
unfoldable pub backfill : List Row → List (List ℕ) → ℕ → List ℕ
backfill rows from limit =
    let starts = held rows from in
    let before = ancestors rows starts in
    let found = events_where rows (λ p. (is_in starts p || is_in before p) && not (row rows p).rejected) in
    take (min limit 100) (sorted (depth_falling rows) found)

-- Server-Server API, get_missing_events: what lies behind the latest, and not behind the earliest, the deepest of it, listed
-- by rising depth; a limit over 20 is 20 (the limit, and which are given where there are more, are our own)
unfoldable pub missing_events : List Row → List (List ℕ) → List (List ℕ) → ℕ → ℕ → List ℕ
missing_events rows earliest latest limit min_depth =
    let ends = held rows latest in
    let known_ones = held rows earliest in
    let behind = ancestors rows ends in
    let behind_known = ancestors rows known_ones in
    let found =
    events_where rows
    (λ p. is_in behind p && not (is_in ends p || is_in known_ones p || is_in behind_known p)
    && nat_le min_depth (depth_of (event rows p)) && not (row rows p).rejected) in
    sorted (depth_rising rows) (take (min limit 20) (sorted (depth_falling rows) found))

-- ---- Server-Server API, joining rooms, make_join: the template, without the `origin` that the server adds

abbrev pub string_items : List (List ℕ) → Items
string_items [] = no_items
string_items (s ∷ ss) = item (string s) (string_items ss)

-- a join of the user
abbrev pub join_event : List (List ℕ) → List (List ℕ) → ℕ → ℕ → List ℕ → List ℕ → Event
join_event auth prev depth now room user =
    object (member (codes "auth_events") (array (string_items auth))
    (member (codes "content") (object (member (codes "membership") (string (codes "join")) no_members))
    (member (codes "depth") (number (unsigned depth))
    (member (codes "origin_server_ts") (number (unsigned now))
    (member (codes "prev_events") (array (string_items prev))
    (member (codes "room_id") (string room)
    (member (codes "sender") (string user)
    (member (codes "state_key") (string user) (member (codes "type") (string (codes "m.room.member")) no_members)))))))))

-- the events on which a join is to follow: the deepest forward extremities, at most 20 (which of them is our own)
abbrev pub join_prev_events : List Kept → List ℕ
join_prev_events kept = take 20 (sorted (depth_falling (rows_of kept)) (forward_extremities kept))

-- the version of the room
abbrev pub room_version : List Kept → RoomVersion
room_version kept = version_in (rows_of kept)

-- the events of the current state on which a join of the user is to rest
abbrev pub join_auth_events : List Kept → ℕ → List ℕ → List ℕ → List ℕ
join_auth_events kept now room user =
    filter_map (entry (current_state kept)) (needed_keys (room_version kept) (join_event [] [] 0 now room user))

unfoldable pub join_template : List Kept → ℕ → List ℕ → List ℕ → Event
join_template kept now room user =
    let rows = rows_of kept in
    let auth = join_auth_events kept now room user in
    let prev = join_prev_events kept in
    join_event (ids_of rows auth) (ids_of rows prev) (min (greatest_depth rows prev + 1) largest) now room user

-- ---- the answer to a query, refused by the first of its checks; which checks a query has, and their order, are our own

abbrev pub Answered : Type 0
Answered = Result QueryReply Denied

abbrev pub unless : Bool → Denied → Answered → Answered
unless fails d rest = if fails then Err d else rest

abbrev pub given_or : Denied → Option QueryReply → Answered
given_or d None = Err d
given_or d (Some reply) = Ok reply

-- to servers in the room that its access control list allows
abbrev pub to_members : List Kept → List ℕ → Answered → Answered
to_members kept origin rest =
    unless (not (acl_allows kept origin)) AccessList (unless (not (in_room kept origin)) NotInRoom rest)

-- the place of an event that is held and was not rejected; a rejected one is as one that is not held (our own)
abbrev pub standing : List Row → List ℕ → Option ℕ
standing rows id = option_and_then (λ p. if (row rows p).rejected then None else Some p) (place_of rows id)

abbrev pub if_standing : List Kept → List ℕ → (ℕ → QueryReply) → Answered
if_standing kept id reply = given_or NotFound (option_map reply (standing (rows_of kept) id))

-- Server-Server API, retrieving events: state, state_ids and event_auth give events of the record in these forms
abbrev pub all_served : List Kept → List ℕ → List Event
all_served kept ps = map (served kept) ps

abbrev pub state_reply : List Kept → List ℕ → QueryReply
state_reply kept ps = gives.State (all_served kept ps) (all_served kept (chain_by_id (rows_of kept) ps))

abbrev pub state_ids_reply : List Kept → List ℕ → QueryReply
state_ids_reply kept ps =
    gives.StateIds (ids_of (rows_of kept) ps) (ids_of (rows_of kept) (chain_by_id (rows_of kept) ps))

-- Server-Server API, backfill and get_missing_events: those of the events that the server may see
abbrev pub events_reply : List Kept → List ℕ → List ℕ → Answered
events_reply kept origin ps = Ok (gives.Events (filter_map (shown kept origin) ps))

-- what the server is shown of the event with this id
unfoldable pub event_shown : List Kept → List ℕ → List ℕ → Option Event
event_shown kept origin id = option_and_then (shown kept origin) (place_of (rows_of kept) id)

-- the room's current state, as the rules look at it
abbrev pub current_view : List Kept → StateView
current_view kept = view (rows_of kept) (current_state kept)

abbrev pub template_by : RoomVersion → Option Rule → Event → Answered
template_by v None e = Ok (gives.Template v e)
template_by v (Some rule) e = Err (denied.Rule rule)

-- the user is of the asking server, which knows the room's version, and the rules allow the join in the current state
abbrev pub make_join : List Kept → List ℕ → ℕ → List ℕ → List ℕ → List (List ℕ) → Answered
make_join kept origin now room user versions =
    let version = room_version kept in
    let template = join_template kept now room user in
    unless (not (acl_allows kept origin)) AccessList
    (unless (not (bytes_eq (server_of user) origin)) OtherServer
    (unless (not (list_any (bytes_eq (version_text version)) versions)) (WrongVersion version)
    (template_by version (rules version template (current_view kept)) template)))

unfoldable pub query_answer : List Kept → List ℕ → ℕ → Query → Answered
query_answer kept origin now (ask.Event id) = given_or NotFound (option_map gives.Event (event_shown kept origin id))
query_answer kept origin now (ask.State room id) =
    to_members kept origin (if_standing kept id (λ p. state_reply kept (events_of (state_before kept p))))
query_answer kept origin now (ask.StateIds room id) =
    to_members kept origin (if_standing kept id (λ p. state_ids_reply kept (events_of (state_before kept p))))
query_answer kept origin now (ask.EventAuth room id) =
    to_members kept origin (if_standing kept id (λ p. gives.EventAuth (all_served kept (chain_by_id (rows_of kept) (p ∷ [])))))
query_answer kept origin now (ask.Backfill room from limit) =
    to_members kept origin
    (unless (length (held (rows_of kept) from) == 0) NotFound
    (events_reply kept origin (backfill (rows_of kept) from limit)))
query_answer kept origin now (ask.Missing room earliest latest limit min_depth) =
    to_members kept origin (events_reply kept origin (missing_events (rows_of kept) earliest latest limit min_depth))
query_answer kept origin now (ask.MakeJoin room user versions) = make_join kept origin now room user versions
