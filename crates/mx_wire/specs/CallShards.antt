-- Which shards of a server a call goes to (our own): a room is kept in the shard of its id.
use Rattle.std.specs.Prelude.{ℕ, ◌==◌, Bool, List, [], ◌∷◌, Option, Some, None, if◌then◌else◌}
use Rattle.std.specs.List.{list_all}
use Rattle.mx_keeper.specs.Places.{place_number}
use Rattle.mx_pdu.specs.Event.{room_of}
use Rattle.mx_pdu.specs.declared.offering.Offered.{Offered}
use Rattle.mx_room.specs.Queries.{room_named}
use Rattle.mx_room.specs.declared.queries.Query.{Query}
use Rattle.mx_requests.specs.Calls.{Call, sends, asks, joins}
use Rattle.mx_wire.specs.declared.calls.CallShards.{CallShards}
use Rattle.mx_wire.specs.declared.calls.CallShards.TheVariants.{Nowhere, Asks, Changes, Several}

-- the shard of a room is asked, or, where none is named, all in turn
abbrev pub asked_at : (count : ℕ) → Option (List ℕ) → CallShards
asked_at count (Some room) = Asks (place_number count room)
asked_at count None = Several

abbrev pub asked_by : (count : ℕ) → Query → CallShards
asked_by count q = asked_at count (room_named q)

abbrev pub changed_in : (count : ℕ) → (room : List ℕ) → CallShards
changed_in count room = Changes (place_number count room)

-- all events are of rooms of this shard
abbrev pub are_all_in : (count shard : ℕ) → List Offered → Bool
are_all_in count shard events = list_all (λ o. place_number count (room_of o.pdu) == shard) events

-- the shard of all events is changed, or that of each
abbrev pub changed_by : (count : ℕ) → List Offered → CallShards
changed_by count [] = Nowhere
changed_by count (o ∷ os) =
    if are_all_in count (place_number count (room_of o.pdu)) (o ∷ os) then changed_in count (room_of o.pdu) else Several

abbrev pub shards_of : (count : ℕ) → Call → CallShards
shards_of count (sends origin txn events) = changed_by count events
shards_of count (asks origin q) = asked_by count q
shards_of count (joins origin o) = changed_in count (room_of o.pdu)
