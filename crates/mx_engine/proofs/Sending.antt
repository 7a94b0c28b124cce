-- Shards, books, events and answers may be sent to another thread wherever their keepers may.
use denote.RattleType.{RattleType}
use denote.Param.Send.{IsSend, IsSync, view_send, sendable}
use denote.Param.SendFields.{declared_send, variants_send}
use Rattle.std.proofs.Crossing.{crosses}
use Rattle.std.proofs.MapsCrossing as maps
use Rattle.serde_json.proofs.value.Value.TheLaws.TheKnot.{send-Value, sync-Value}
use Rattle.serde_json.specs.contracts.value.Value as value
use Rattle.mx_pdu.specs.contracts.pdus.Parts as parts
use Rattle.mx_pdu.specs.contracts.pdus.Pdu as pdu
use Rattle.mx_pdu.specs.contracts.offering.Offered as offered
use Rattle.mx_ident.proofs.room_ids.RoomId.TheSendSync as room_id
use Rattle.mx_ident.proofs.event_ids.EventId.TheSendSync as event_id
use Rattle.mx_ident.proofs.user_ids.UserId.TheSendSync as user_id
use Rattle.mx_graph.proofs.numbers.EventNo.TheSendSync as event_no
use Rattle.mx_graph.proofs.auth_chains.AuthChains.TheSendSync as auth_chains
use Rattle.mx_graph.proofs.redactions.RedactionIndex.TheSendSync as redactions
use Rattle.mx_graph.specs.contracts.rows.GraphRow as graph_row
use Rattle.mx_graph.specs.contracts.graphs.Graph as graph
use Rattle.mx_graph.specs.contracts.graphs.Graph.TheInside as graph_inside
use Rattle.mx_states.proofs.states.States.TheSendSync as states
use Rattle.mx_states.proofs.states.state_numbers.StateNo.TheSendSync as state_no
use Rattle.mx_receipt.proofs.snapshots.Judgement.TheSendSync as judgement
use Rattle.mx_receipt.proofs.timelines.Prepared.TheSendSync as prepared
use Rattle.mx_receipt.proofs.resolution_cache.ResolutionCache.TheSendSync as resolutions
use Rattle.mx_receipt.specs.contracts.timelines.Timeline.TheInside as timeline_inside
use Rattle.mx_receipt.specs.contracts.timelines.Timeline as timeline
use Rattle.mx_room.specs.contracts.rooms.Room.TheInside as room_inside
use Rattle.mx_room.specs.contracts.rooms.Room as room
use Rattle.mx_room.specs.contracts.event_lists.EventList as event_list
use Rattle.mx_room.specs.contracts.queries.join_templates.JoinTemplate as join_template
use Rattle.mx_room.specs.contracts.joining.Joined as joined
use Rattle.mx_room.specs.contracts.joining.JoinReply as join_reply
use Rattle.mx_room.specs.contracts.queries.QueryReply as query_reply
use Rattle.mx_room.proofs.event_lists.EventIdList.TheSendSync as id_list
use Rattle.mx_room.proofs.outcomes.Outcome.TheSendSync as outcome
use Rattle.mx_room.proofs.hosting.NotARoom.TheSendSync as not_a_room
use Rattle.mx_room.proofs.queries.Denied.TheSendSync as denied
use Rattle.mx_keeper.specs.declared.keepers.Keeper.{Ghosts}
use Rattle.mx_keeper.specs.declared.rows.ShardRow.{ShardRow}
use Rattle.mx_keeper.proofs.places.Place.TheSendSync as place
use Rattle.mx_shard.proofs.holders.Holder.TheSendSync as holder
use Rattle.mx_shard.proofs.journal_places.JournalPlace.TheSendSync as journal_place
use Rattle.mx_shard.specs.contracts.shards.Shard.TheInside as shard_inside
use Rattle.mx_shard.specs.contracts.shards.Shard as shard
use Rattle.mx_shard.specs.contracts.answers.Answer as answer
use Rattle.mx_keeper.specs.declared.rows.BookRow.{BookRow}
use Rattle.mx_keeper.proofs.caller.Caller.TheSendSync as caller
use Rattle.mx_keeper.proofs.replies.Reply.TheSendSync as reply
use Rattle.mx_book.proofs.transaction_keys.TransactionKey.TheSendSync as key
use Rattle.mx_book.proofs.journals.Journal.TheLaws.TheKnot.{send-Journal}
use Rattle.mx_book.specs.contracts.journals.Journal as journal
use Rattle.mx_book.specs.contracts.books.Book.TheInside as book_inside
use Rattle.mx_book.specs.contracts.books.Book as book

-- ---- events
pub value_send : IsSend value.the_row
value_send = search (send-Value, crosses, maps.crosses, sendable) depth 20 fits 20000

pub value_sync : IsSync value.the_row
value_sync = search (sync-Value, crosses, maps.crosses, sendable) depth 20 fits 20000

parts_send : IsSend parts.the_row
parts_send = search (crosses, maps.crosses, value_send, room_id.the_send, user_id.the_send, event_id.the_send, sendable)
    depth 20 fits 20000

parts_sync : IsSync parts.the_row
parts_sync = search (crosses, maps.crosses, value_sync, room_id.the_sync, user_id.the_sync, event_id.the_sync, sendable)
    depth 20 fits 20000

pub pdu_send : IsSend pdu.the_row
pdu_send = search (crosses, parts_send, parts_sync, sendable) depth 20 fits 20000

pub pdu_sync : IsSync pdu.the_row
pdu_sync = search (crosses, parts_send, parts_sync, sendable) depth 20 fits 20000

pub offered_send : IsSend offered.the_row
offered_send = search (pdu_send, event_id.the_send, sendable) depth 20 fits 20000

pub offered_sync : IsSync offered.the_row
offered_sync = search (pdu_sync, event_id.the_sync, sendable) depth 20 fits 20000

-- ---- rooms
graph_row_send : IsSend graph_row.the_row
graph_row_send = search (pdu_send, event_id.the_send, sendable) depth 20 fits 20000

pub graph_send : IsSend graph.the_row
graph_send = view_send _ _ _ _ _
    (declared_send graph_inside.the_type
    (search (
      graph_row_send,
      auth_chains.the_send,
      redactions.the_send,
      event_id.the_send,
      event_no.the_send,
      crosses,
      maps.crosses,
      sendable,
    ) depth 20))

pub timeline_send : IsSend timeline.the_row
timeline_send = view_send _ _ _ _ _
    (declared_send timeline_inside.the_type
    (search (
      graph_send,
      states.the_send,
      resolutions.the_send,
      judgement.the_send,
      prepared.the_send,
      event_no.the_send,
      state_no.the_send,
      crosses,
      sendable,
    ) depth 20))

pub room_send : IsSend room.the_row
room_send = view_send _ _ _ _ _ (declared_send room_inside.the_type (room_id.the_send, (timeline_send, tt)))

-- ---- a room's answers
pub event_list_send : IsSend event_list.the_row
event_list_send = search (pdu_send, crosses, sendable) depth 20 fits 20000

pub join_template_send : IsSend join_template.the_row
join_template_send = search (value_send, maps.crosses, crosses, sendable) depth 20 fits 20000

pub joined_send : IsSend joined.the_row
joined_send = search (pdu_send, event_list_send, sendable) depth 20 fits 20000

pub join_reply_send : IsSend join_reply.the_row
join_reply_send = variants_send join_reply.enum (tt, ((outcome.the_send, (search (joined_send, sendable) depth 20, tt)), tt))

pub query_reply_send : IsSend query_reply.the_row
query_reply_send = search (pdu_send, event_list_send, id_list.the_send, join_template_send, sendable) depth 40 fits 20000

pub answer_send : IsSend answer.the_row
answer_send = variants_send answer.enum
    (search (
      query_reply_send,
      join_reply_send,
      outcome.the_send,
      event_id.the_send,
      not_a_room.the_send,
      denied.the_send,
      sendable,
    ) depth 20)

-- ---- shards
pub shard_send : (K : RattleType) (g : Ghosts K.Denot ShardRow) → IsSend K → IsSend (shard.the_row K g)
shard_send K g k = view_send _ _ _ _ _
    (declared_send (shard_inside.the_type K g) (
      search (crosses, sendable) depth 20,
      (
        search (k, sendable) depth 20,
        search (
          room_send,
          place.the_send,
          room_id.the_send,
          event_id.the_send,
          holder.the_send,
          journal_place.the_send,
          crosses,
          maps.crosses,
          sendable,
        ) depth 20,
      ),
    ))

-- ---- books
journal_send : IsSend journal.the_row
journal_send = search (send-Journal, caller.the_send, crosses, sendable) depth 20 fits 20000

pub book_send : (K : RattleType) (g : Ghosts K.Denot BookRow) → IsSend K → IsSend (book.the_row K g)
book_send K g k = view_send _ _ _ _ _
    (declared_send (book_inside.the_type K g) (
      search (k, sendable) depth 20,
      search
          (place.the_send, journal_send, caller.the_send, key.the_send, reply.the_send, crosses, maps.crosses, sendable) depth 20,
    ))
