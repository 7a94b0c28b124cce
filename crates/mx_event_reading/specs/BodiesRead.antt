-- What was read of a body: its value, or its events and its other members (Matrix specification, Server-Server API,
-- "Transactions").
use Rattle.std.specs.Prelude.{◌≡◌, ℕ, IsTrue, List, [], ◌∷◌, Option, None, Some, codes, option_map, ⊤}
use Rattle.std.specs.List.{AllByRecursion}
use Rattle.json.specs.Token.{Token}
use Rattle.serde_json.specs.Data.{Data, Items, Members, array, item, no_items, object, put}
use Rattle.serde_json.specs.View.{view, members_view}
use Rattle.mx_pdu.specs.Format.{is_well_formed}
use Rattle.mx_pdu.specs.Offers.{Judge, offer_by}
use Rattle.mx_pdu.specs.declared.offering.Offered.{Offered}
use Rattle.mx_event_reading.specs.declared.objects.BodyRead.{BodyRead}
use Rattle.mx_event_reading.specs.declared.objects.BodyRead.TheVariants.{Value, Events}
use Rattle.mx_event_reading.specs.declared.objects.EventsRead.{EventsRead}
use Rattle.mx_event_reading.specs.declared.objects.Found.{Found}

-- events as the entries of an array
abbrev pub items_of : List Offered → Items
items_of [] = no_items
items_of (o ∷ os) = item o.pdu (items_of os)

-- the object with these events at `pdus` and these other members
abbrev pub object_of : EventsRead → Data
object_of read = object (put (codes "pdus") (array (items_of read.events.items)) (members_view read.others.entries))

-- the value that was read
abbrev pub value_of : BodyRead → Data
value_of (Value v) = view v
value_of (Events read) = object_of read

-- each of these events is well formed, and offered so
abbrev pub AreOffered : Judge → List Offered → Type 0
AreOffered judges events = AllByRecursion (λ o. IsTrue (is_well_formed o.pdu) × (o ≡ offer_by judges o.pdu)) events

-- the events of an object that was read so
abbrev pub IsOffered : Judge → BodyRead → Type 0
IsOffered judges (Value v) = ⊤
IsOffered judges (Events read) = AreOffered judges read.events.items

-- ---- for private clauses alone

-- with these events at `pdus`, where there are any
abbrev pub with_events : Option (List Offered) → Members → Members
with_events None ms = ms
with_events (Some events) ms = put (codes "pdus") (array (items_of events)) ms

abbrev pub AreOfferedIf : Judge → Option (List Offered) → Type 0
AreOfferedIf judges None = ⊤
AreOfferedIf judges (Some events) = AreOffered judges events

abbrev pub events_of : Found → Option (List Offered)
events_of found = option_map (λ events. events.items) found.events

abbrev pub members_of : Found → Members
members_of found = with_events (events_of found) (members_view found.others.entries)

-- one member more was read
pub record ReadsMember (key : List ℕ) (before after : Found) (found : Option (Data × List Token)) (rest : List Token) : Type 0 where
  pub value : Data
  pub read : found ≡ Some (value, rest)
  pub members_are : members_of after ≡ put key value (members_of before)
