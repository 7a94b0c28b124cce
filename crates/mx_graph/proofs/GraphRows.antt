-- Worked examples: ancestors and auth chains, and which rows are refused.
use Rattle.std.specs.Prelude.{◌≡◌, List, ℕ, ◌-◌, [], ◌∷◌, filter, map, codes, false, refl, Some, None}
use Rattle.std.specs.List.{range_with_len}
use Rattle.serde_json.specs.Data.{string, array, object, Items, no_items, item, no_members, member}
use Rattle.mx_graph.specs.declared.refusals.NotAdded.TheVariants.{Known, MissingPrevEvent, MissingAuthEvent, Full}
use Rattle.mx_graph.specs.Record.{Row, events_where, names_in_redaction}
use Rattle.mx_graph.specs.Graph.{ancestors, auth_chain, is_in_difference}
use Rattle.mx_graph.specs.Adding.{add_error}

abbrev texts : List (List ℕ) → Items
texts [] = no_items
texts (t ∷ ts) = item (string t) (texts ts)

-- a row whose event has these prev events and auth events
abbrev a_row : List ℕ → List (List ℕ) → List (List ℕ) → Row
a_row id prev auth =
    record { id = id; event = object (member (codes "auth_events") (array (texts auth)) (member (codes "prev_events") (array (texts prev)) no_members)); rejected = false }

-- the create event, its creator's join, power levels, join rules, and the joins of two more
abbrev base : List Row
base =
    a_row (codes "$1") [] []
    ∷ a_row (codes "$2") (codes "$1" ∷ []) (codes "$1" ∷ [])
    ∷ a_row (codes "$3") (codes "$2" ∷ []) (codes "$1" ∷ codes "$2" ∷ [])
    ∷ a_row (codes "$4") (codes "$3" ∷ []) (codes "$1" ∷ codes "$2" ∷ codes "$3" ∷ [])
    ∷ a_row (codes "$5") (codes "$4" ∷ []) (codes "$1" ∷ codes "$3" ∷ codes "$4" ∷ [])
    ∷ a_row (codes "$6") (codes "$5" ∷ []) (codes "$1" ∷ codes "$3" ∷ codes "$4" ∷ [])
    ∷ []

ancestors-base : ancestors base (5 ∷ []) ≡ 0 ∷ 1 ∷ 2 ∷ 3 ∷ 4 ∷ []
unfolding ancestors
ancestors-base = refl

auth_chain-base : auth_chain base (5 ∷ []) ≡ 0 ∷ 1 ∷ 2 ∷ 3 ∷ []
unfolding auth_chain
auth_chain-base = refl

-- a start counts only where another start leads to it
ancestors-two : ancestors base (2 ∷ 1 ∷ []) ≡ 0 ∷ 1 ∷ []
unfolding ancestors
ancestors-two = refl

auth_chain-first : auth_chain base (0 ∷ []) ≡ []
unfolding auth_chain
auth_chain-first = refl

add-known : add_error base (a_row (codes "$2") (codes "$9" ∷ []) (codes "$9" ∷ [])) ≡ Some Known
unfolding add_error
add-known = refl

-- an event that cites itself cites an event that isn't there
add-missing_prev : add_error base (a_row (codes "$7") (codes "$6" ∷ codes "$7" ∷ []) (codes "$9" ∷ [])) ≡ Some MissingPrevEvent
unfolding add_error
add-missing_prev = refl

add-missing_auth : add_error base (a_row (codes "$7") (codes "$6" ∷ []) (codes "$1" ∷ codes "$9" ∷ [])) ≡ Some MissingAuthEvent
unfolding add_error
add-missing_auth = refl

add-free : add_error base (a_row (codes "$7") (codes "$6" ∷ codes "$6" ∷ []) (codes "$1" ∷ [])) ≡ None
unfolding add_error
add-free = refl

-- ---- where auth chains differ: power levels that are replaced twice in each of two branches, and a topic in each

abbrev forked : List Row
forked =
    a_row (codes "$1") [] []
    ∷ a_row (codes "$2") [] (codes "$1" ∷ [])
    ∷ a_row (codes "$3") [] (codes "$1" ∷ codes "$2" ∷ [])
    ∷ a_row (codes "$4") [] (codes "$1" ∷ codes "$2" ∷ [])
    ∷ a_row (codes "$5") [] (codes "$1" ∷ codes "$3" ∷ [])
    ∷ a_row (codes "$6") [] (codes "$1" ∷ codes "$4" ∷ [])
    ∷ a_row (codes "$7") [] (codes "$1" ∷ codes "$5" ∷ [])
    ∷ a_row (codes "$8") [] (codes "$1" ∷ codes "$6" ∷ [])
    ∷ []

auth_chain-topic : auth_chain forked (6 ∷ []) ≡ 0 ∷ 1 ∷ 2 ∷ 4 ∷ []
unfolding auth_chain
auth_chain-topic = refl

auth_difference-topics : filter (is_in_difference forked (0 ∷ []) ((6 ∷ []) ∷ (7 ∷ []) ∷ [])) (range_with_len 0 8) ≡ 2 ∷ 3 ∷ 4 ∷ 5 ∷ []
unfolding auth_chain
auth_difference-topics = refl

-- `$3` is in the auth chain of `$5`, which all have
auth_difference-shared : filter (is_in_difference forked (4 ∷ []) ((6 ∷ []) ∷ (7 ∷ []) ∷ [])) (range_with_len 0 8) ≡ 3 ∷ 4 ∷ 5 ∷ []
unfolding auth_chain
auth_difference-shared = refl

auth_difference-with_none : filter (is_in_difference forked [] ((6 ∷ []) ∷ [] ∷ [])) (range_with_len 0 8) ≡ 0 ∷ 1 ∷ 2 ∷ 4 ∷ []
unfolding auth_chain
auth_difference-with_none = refl

-- ---- redactions of an event that is there, and of one that is not

abbrev redaction : List ℕ → List ℕ → Row
redaction id target =
    record { id = id; event = object (member (codes "redacts") (string target) (member (codes "type") (string (codes "m.room.redaction")) no_members)); rejected = false }

abbrev redacted : List Row
redacted = a_row (codes "$1") [] [] ∷ redaction (codes "$7") (codes "$1") ∷ redaction (codes "$8") (codes "$100") ∷ redaction (codes "$9") (codes "$1") ∷ []

redactions-there : events_where redacted (names_in_redaction redacted (codes "$1")) ≡ 1 ∷ 3 ∷ []
redactions-there = refl

redactions-missing : events_where redacted (names_in_redaction redacted (codes "$100")) ≡ 2 ∷ []
redactions-missing = refl

-- ---- the most rows, each after the one before it

-- the id of a place
abbrev place_id : ℕ → List ℕ
place_id n = 36 ∷ n ∷ []

-- a row that cites the row before it and the first one
abbrev next_row : ℕ → Row
next_row n = a_row (place_id n) (place_id (n - 1) ∷ []) (place_id 0 ∷ [])

abbrev rows_to : ℕ → List Row
rows_to n = a_row (place_id 0) [] [] ∷ map next_row (range_with_len 1 (n - 1))

add-last : add_error (rows_to 49999) (next_row 49999) ≡ None
unfolding add_error
add-last = refl

add-full : add_error (rows_to 50000) (next_row 50000) ≡ Some Full
unfolding add_error
add-full = refl
