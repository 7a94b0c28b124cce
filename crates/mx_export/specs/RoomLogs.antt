-- The log of a room: it hosts the room, and puts its events to it (docs/LOG.md, the lines of a log).
use Rattle.std.specs.Prelude.{ℕ, ◌+◌, ◌-◌, ◌*◌, ◌/◌, List, [], ◌∷◌, ◌++◌, codes, decimal, drop, flat_map, length, map, take, Option, option_map, unwrap_or}
use Rattle.std.specs.List.{join_with_byte, range_with_len}
use Rattle.mx_ident.specs.Identifier.{server_of}
use Rattle.mx_canon.specs.Canonical.{canonical_text, string_text}
use Rattle.mx_redact.specs.Fields.{Event}
use Rattle.mx_pdu.specs.Event.{sender_of}
use Rattle.mx_export.specs.RoomEvents.{create_of, in_order, room_events}

-- Server-Server API, transactions: the most events of one
abbrev pub most_events : ℕ
most_events = 50

abbrev pub host_text : Event → List ℕ
host_text create = codes "{\"event\":" ++ (canonical_text create ++ codes ",\"step\":\"host\"}\n")

-- the lines of a transaction of a server, each with the texts of its origin and its number as JSON has them
abbrev pub open_text : (origin number : List ℕ) → List Event → List ℕ
open_text origin number es =
    codes "{\"origin\":" ++ (origin ++ (codes ",\"pdus\":[" ++ (join_with_byte 44 (map canonical_text es)
    ++ (codes "],\"step\":\"open\",\"txn\":" ++ (number ++ codes "}\n")))))

abbrev pub step_text : (step origin number : List ℕ) → List ℕ
step_text step origin number =
    codes "{\"origin\":" ++ (origin ++ (codes ",\"step\":\"" ++ (step ++ (codes "\",\"txn\":" ++ (number ++ codes "}\n")))))

-- it is opened, each of its events has its turn, and it is closed
abbrev pub transaction_text : (origin number : List ℕ) → List Event → List ℕ
transaction_text origin number es =
    open_text origin number es
    ++ (flat_map (λ e. step_text (codes "next") origin number) es ++ step_text (codes "close") origin number)

-- the number of the k-th transaction, from 0: the room and `k + 1`, so that logs of several rooms make one log
abbrev pub number_of : List ℕ → ℕ → List ℕ
number_of room k = room ++ (codes " " ++ decimal (k + 1))

-- the events of the k-th transaction
abbrev pub part : ℕ → List Event → List Event
part k es = take most_events (drop (most_events * k) es)

abbrev pub transactions_text : (origin room : List ℕ) → List Event → List ℕ
transactions_text origin room es =
    flat_map (λ k. transaction_text (string_text origin) (string_text (number_of room k)) (part k es))
    (range_with_len 0 ((length es + (most_events - 1)) / most_events))

-- the create event hosts the room, and the others follow in their order
unfoldable pub log_text : (origin room : List ℕ) → (create : Event) → List Event → List ℕ
log_text origin room create es =
    host_text create ++ transactions_text origin room (drop 1 (in_order (room_events room create es)))

-- the server that sends the transactions: the one that was named, else that of the create event's sender, whom no
-- access control list of the room denies at first
abbrev pub origin_of : Option (List ℕ) → Event → List ℕ
origin_of origin create = unwrap_or origin (server_of (sender_of create))

-- the log of a room, where its create event is there
abbrev pub room_log : Option (List ℕ) → List ℕ → List Event → Option (List ℕ)
room_log origin room es = option_map (λ create. log_text (origin_of origin create) room create es) (create_of room es)
