-- A server that hosts one room alone: its replies, and the room's last record, over a list of the room's calls (our own).
-- The record of a room that is not hosted has no row.
use Rattle.std.specs.Prelude.{ℕ, List, [], ◌∷◌, ◌++◌, Option, None, Some, option_to_list, Err}
use Rattle.mx_pdu.specs.Event.{room_of}
use Rattle.mx_receipt.specs.Receipt.{Kept, begun}
use Rattle.mx_room.specs.Offer.{Offered, offer_outcome, row_by}
use Rattle.mx_room.specs.Joins.{join_reply, row_by_join}
use Rattle.mx_room.specs.Hosting.{host_error}
use Rattle.mx_room.specs.Queries.{room_named, query_answer}
use Rattle.mx_room.specs.declared.hosting.NotARoom.{NotARoom}
use Rattle.mx_room.specs.declared.queries.Query.{Query}
use Rattle.mx_room.specs.declared.queries.Query.TheVariants.{Event as ask_event}
use Rattle.mx_room.specs.declared.queries.Denied.TheVariants.{NotFound}
use Rattle.mx_shard.specs.declared.sendings.Sending.{Sending}
use Rattle.mx_shard.specs.declared.sendings.Sending.TheVariants as sends
use Rattle.mx_shard.specs.declared.answers.Answer.{Answer}
use Rattle.mx_shard.specs.declared.answers.Answer.TheVariants.{NotHosted, Hosted, AlreadyHosted, NotHost, ToOffered, ToJoined, ToAsked}

-- ---- calls

-- the origin of an offer, a join or a query is the server that it comes from
pub data Call : Type 0 where
  to_host : Offered → Call
  to_offer to_join : (origin : List ℕ) → Offered → Call
  to_ask : (origin : List ℕ) (now : ℕ) → Query → Call

-- the room that a call is put to; a query by an event's id alone is put to each
abbrev pub call_room : Call → Option (List ℕ)
call_room (to_host o) = Some (room_of o.pdu)
call_room (to_offer origin o) = Some (room_of o.pdu)
call_room (to_join origin o) = Some (room_of o.pdu)
call_room (to_ask origin now q) = room_named q

-- the call by which a server sends an event
abbrev pub sent_call : Sending → List ℕ → Offered → Call
sent_call sends.Offer origin o = to_offer origin o
sent_call sends.Join origin o = to_join origin o

abbrev pub hosting : Offered → Option NotARoom → Answer
hosting o None = Hosted o.id
hosting o (Some error) = NotHost error

abbrev pub first_rows : Offered → Option NotARoom → List Kept
first_rows o None = begun o.id o.pdu
first_rows o (Some error) = []

-- of a room that is not hosted an event is not found by its id alone
abbrev pub unhosted_answer : Query → Answer
unhosted_answer (ask_event id) = ToAsked (Err NotFound)
unhosted_answer _ = NotHosted

-- the reply to a call
abbrev pub answer : List Kept → Call → Answer
answer [] (to_host o) = hosting o (host_error o)
answer [] (to_offer origin o) = NotHosted
answer [] (to_join origin o) = NotHosted
answer [] (to_ask origin now q) = unhosted_answer q
answer (k ∷ ks) (to_host o) = AlreadyHosted k.id
answer (k ∷ ks) (to_offer origin o) = ToOffered (offer_outcome (k ∷ ks) origin o)
answer (k ∷ ks) (to_join origin o) = ToJoined (join_reply (k ∷ ks) origin o)
answer (k ∷ ks) (to_ask origin now q) = ToAsked (query_answer (k ∷ ks) origin now q)

-- the rows that a call adds
abbrev pub added : List Kept → Call → List Kept
added [] (to_host o) = first_rows o (host_error o)
added [] (to_offer origin o) = []
added [] (to_join origin o) = []
added [] (to_ask origin now q) = []
added (k ∷ ks) (to_host o) = []
added (k ∷ ks) (to_offer origin o) = option_to_list (row_by o (offer_outcome (k ∷ ks) origin o))
added (k ∷ ks) (to_join origin o) = option_to_list (row_by_join o (join_reply (k ∷ ks) origin o))
added (k ∷ ks) (to_ask origin now q) = []

-- ---- a list of calls, from a record

abbrev pub answers_alone : List Kept → List Call → List Answer
answers_alone kept [] = []
answers_alone kept (call ∷ calls) = answer kept call ∷ answers_alone (kept ++ added kept call) calls

abbrev pub record_alone : List Kept → List Call → List Kept
record_alone kept [] = kept
record_alone kept (call ∷ calls) = record_alone (kept ++ added kept call) calls
