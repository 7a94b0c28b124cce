-- A transaction's events in two orders (our own).
use Rattle.std.specs.Prelude.{ℕ, ◌≡◌, List, [], ◌∷◌, bytes_eq, filter}
use Rattle.mx_pdu.specs.Event.{room_of}
use Rattle.mx_room.specs.Offer.{Offered}
use Rattle.mx_receipt.specs.Receipt.{Kept}
use Rattle.mx_shard.specs.LoneRoom.{to_offer, record_alone}
use Rattle.mx_world.specs.Calls.{if_put_to}
use Rattle.mx_world.specs.Replies.{told_of}
use Rattle.mx_world.specs.declared.answers.Told.{Told}

-- each room's record after a server's event was offered
abbrev pub after_offer : (List ℕ → List Kept) → List ℕ → Offered → List ℕ → List Kept
after_offer rows origin o room = record_alone (rows room) (if_put_to room (to_offer origin o))

-- each room's record after a server's events were offered in turn
abbrev pub after_offers : (List ℕ → List Kept) → List ℕ → List Offered → List ℕ → List Kept
after_offers rows origin [] = rows
after_offers rows origin (o ∷ os) = after_offers (after_offer rows origin o) origin os

-- what is told of each in its turn
abbrev pub told_in_turn : (List ℕ → List Kept) → List ℕ → List Offered → List Told
told_in_turn rows origin [] = []
told_in_turn rows origin (o ∷ os) = told_of rows origin o ∷ told_in_turn (after_offer rows origin o) origin os

-- the events of a room
abbrev pub events_in : List ℕ → List Offered → List Offered
events_in room = filter (λ o. bytes_eq (room_of o.pdu) room)

-- each room has the same events in the same order
abbrev pub AgreeByRoom : List Offered → List Offered → Type 0
AgreeByRoom events others = (room : List ℕ) → events_in room events ≡ events_in room others

-- which of these events has this one's id is of its room
abbrev pub IsApartFrom : Offered → List Offered → Type 0
IsApartFrom o [] = Unit {0}
IsApartFrom o (p ∷ ps) = (o.id ≡ p.id → room_of o.pdu ≡ room_of p.pdu) × IsApartFrom o ps

-- no id stands on events of two rooms
abbrev pub AreApart : List Offered → Type 0
AreApart [] = Unit {0}
AreApart (o ∷ os) = IsApartFrom o os × AreApart os
