-- Joins of users of other servers (Matrix specification, Server-Server API, joining rooms, send_join).
use Rattle.std.specs.Prelude.{ℕ, Bool, false, ◌||◌, if◌then◌else◌, List, [], ◌∷◌, ◌++◌, bytes_eq, Option, None, option_map}
use Rattle.mx_ident.specs.Identifier.{server_of}
use Rattle.mx_pdu.specs.Event.{sender_of}
use Rattle.mx_graph.specs.Record.{place_of}
use Rattle.mx_graph.specs.StateMap.{events_of}
use Rattle.mx_receipt.specs.Receipt.{Kept, rows_of, is_accepted, installed, state_before}
use Rattle.mx_access.specs.Access.{served}
use Rattle.mx_room.specs.Offer.{Offered, offer_outcome, is_kept, row_by}
use Rattle.mx_room.specs.Queries.{all_served, chain_by_id}
use Rattle.mx_room.specs.declared.outcomes.Outcome.{Outcome}
use Rattle.mx_room.specs.declared.outcomes.Outcome.TheVariants as outcome
use Rattle.mx_room.specs.declared.joining.Joined.{Joined}
use Rattle.mx_room.specs.declared.joining.JoinReply.{JoinReply}
use Rattle.mx_room.specs.declared.joining.JoinReply.TheVariants as join

-- the event is held and was accepted
abbrev pub is_let_in : Outcome → Bool
is_let_in (outcome.Kept v) = is_accepted v
is_let_in (outcome.Known v) = is_accepted v
is_let_in (outcome.Refused r) = false

-- the record after an offer
abbrev pub with_offer : List Kept → List ℕ → Offered → List Kept
with_offer kept origin o = installed kept (row_by o (offer_outcome kept origin o))

-- what is served of the event at a place, of the state before it, and of the auth chains of that state and of the event
abbrev pub joined_at : List Kept → ℕ → Joined
joined_at kept p =
    let before = events_of (state_before kept p) in
    record {
      state = all_served kept before;
      auth_chain = all_served kept (chain_by_id (rows_of kept) (before ++ p ∷ []));
      event = served kept p;
    }

-- the answer where the outcome is this, by the record after it
abbrev pub joined_by : List Kept → List ℕ → Outcome → Option Joined
joined_by after id o = if is_let_in o then option_map (joined_at after) (place_of (rows_of after) id) else None

abbrev pub join_reply_by : List Kept → List ℕ → Outcome → JoinReply
join_reply_by after id o = join.Offered o (joined_by after id o)

-- a join by a user of another server than the one that sends it is not offered
unfoldable pub join_reply : List Kept → List ℕ → Offered → JoinReply
join_reply kept origin o =
    if bytes_eq (server_of (sender_of o.pdu)) origin
    then join_reply_by (with_offer kept origin o) o.id (offer_outcome kept origin o)
    else join.NotOffered

-- the row that a join adds
abbrev pub row_by_join : Offered → JoinReply → Option Kept
row_by_join o join.NotOffered = None
row_by_join o (join.Offered outcome joined) = row_by o outcome

-- an event is kept, or an answer is made
abbrev pub takes_memory : JoinReply → Bool
takes_memory join.NotOffered = false
takes_memory (join.Offered outcome joined) = is_kept outcome || is_let_in outcome
