-- What a call is about to change, for private clauses (our own).
use Rattle.std.specs.Prelude.{◌≡◌, ℕ, List, [], bytes_eq, find, slice_set, Option, Some, None}
use Rattle.std.specs.BTreeMap.{BTreeMap}
use Rattle.mx_pdu.specs.Event.{room_of}
use Rattle.mx_receipt.specs.Receipt.{Kept, begun}
use Rattle.mx_room.specs.Hosting.{host_error}
use Rattle.mx_room.specs.Joins.{join_reply, row_by_join}
use Rattle.mx_room.specs.Offer.{Offered, offer_outcome, row_by}
use Rattle.mx_auth.specs.declared.versions.RoomVersion.{RoomVersion}
use Rattle.mx_room.specs.Queries.{room_version}
use Rattle.mx_room.specs.RoomView.{RoomView}
use Rattle.mx_keeper.specs.declared.rows.ShardRow.{ShardRow}
use Rattle.mx_shard.specs.LoneRoom.{Call, to_host, sent_call, answer, added}
use Rattle.mx_shard.specs.Inside.{room_at, rows_in, number_of, with_prepared}
use Rattle.mx_shard.specs.declared.answers.Answer.{Answer}
use Rattle.mx_shard.specs.declared.answers.Answer.TheVariants.{ToOffered, ToJoined}
use Rattle.mx_shard.specs.declared.hosting.Hosting.{Hosting}
use Rattle.mx_shard.specs.declared.hosting.Hosting.TheVariants as hosts
use Rattle.mx_shard.specs.declared.hosting.NewRoom.{NewRoom}
use Rattle.mx_shard.specs.declared.offering.Offering.{Offering}
use Rattle.mx_shard.specs.declared.offering.Offering.TheVariants as offers
use Rattle.mx_shard.specs.declared.offering.NewRow.{NewRow}
use Rattle.mx_shard.specs.declared.sendings.Sending.{Sending}
use Rattle.mx_shard.specs.declared.sendings.Sending.TheVariants as sends

-- the answer to a call that adds nothing
pub record IsAnswered (kept : List Kept) (call : Call) (a : Answer) : Type 0 where
  pub answer : a ≡ answer kept call
  pub nothing : added kept call ≡ []

-- the row that is stored of an event
abbrev pub row_for : List ℕ → RoomVersion → ℕ → Kept → ShardRow
row_for room version caller k = record { room = room; version = version; event = k.event; caller = caller }

-- a room that the event makes, and that is not hosted
pub record IsNewRoom (rooms : List RoomView) (caller : ℕ) (o : Offered) (new : NewRoom) : Type 0 where
  pub missing : find (λ room. bytes_eq room.id (room_of o.pdu)) rooms ≡ None
  pub free : host_error o ≡ None
  pub room : new.room ≡ record { id = room_of o.pdu; kept = begun o.id o.pdu; prepared = None }
  pub id : new.id ≡ o.id
  pub row : new.row ≡ record { room = room_of o.pdu; version = room_version (begun o.id o.pdu); event = o.pdu; caller = caller }

-- what comes of a call that hosts
abbrev pub IsHosting : List RoomView → ℕ → Offered → Hosting → Type 0
IsHosting rooms caller o (hosts.Answered a) = IsAnswered (rows_in rooms (room_of o.pdu)) (to_host o) a
IsHosting rooms caller o (hosts.Made new) = IsNewRoom rooms caller o new

-- ---- an event that a server sends

-- the answer of a room with events
abbrev pub sent_answer : Sending → List Kept → List ℕ → Offered → Answer
sent_answer sends.Offer kept origin o = ToOffered (offer_outcome kept origin o)
sent_answer sends.Join kept origin o = ToJoined (join_reply kept origin o)

-- the row that it adds
abbrev pub sent_row : Sending → List Kept → List ℕ → Offered → Option Kept
sent_row sends.Offer kept origin o = row_by o (offer_outcome kept origin o)
sent_row sends.Join kept origin o = row_by_join o (join_reply kept origin o)

-- an event that its room is prepared to keep
pub record IsNewRow (before after : List RoomView) (numbers : BTreeMap (List ℕ) ℕ) (caller : ℕ) (s : Sending) (origin : List ℕ) (o : Offered) (new : NewRow) : Type 0 where
  pub kept : Kept
  pub found : number_of numbers (room_of o.pdu) ≡ Some new.number
  pub answer : new.answer ≡ sent_answer s (room_at before new.number).kept origin o
  pub adds : sent_row s (room_at before new.number).kept origin o ≡ Some kept
  pub rooms : after ≡ slice_set before new.number (with_prepared (room_at before new.number) (Some kept))
  pub row : new.row ≡ row_for (room_of o.pdu) (room_version (room_at before new.number).kept) caller kept

-- what comes of a call that sends an event
abbrev pub IsOffering : List RoomView → List RoomView → BTreeMap (List ℕ) ℕ → ℕ → Sending → List ℕ → Offered → Offering → Type 0
IsOffering before after numbers caller s origin o (offers.Answered a) = (after ≡ before) × IsAnswered (rows_in before (room_of o.pdu)) (sent_call s origin o) a
IsOffering before after numbers caller s origin o (offers.Prepared new) = IsNewRow before after numbers caller s origin o new
