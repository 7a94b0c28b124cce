-- What reads requests, and what they ask for, may be sent between threads.
use denote.Param.Send.{IsSend, IsSync, view_send, view_sync, sendable}
use denote.Param.SendFields.{declared_send, declared_sync, variants_send}
use Rattle.std.proofs.Crossing.{crosses}
use Rattle.mx_ident.proofs.server_names.ServerName.TheSendSync as server_name
use Rattle.mx_ident.proofs.room_ids.RoomId.TheSendSync as room_id
use Rattle.mx_ident.proofs.event_ids.EventId.TheSendSync as event_id
use Rattle.mx_ident.proofs.user_ids.UserId.TheSendSync as user_id
use Rattle.mx_room.proofs.event_lists.EventIdList.TheSendSync as id_list
use Rattle.mx_room.proofs.event_lists.VersionList.TheSendSync as versions
use Rattle.mx_room.specs.contracts.queries.Query as query
use Rattle.mx_keeper.proofs.shard_counts.ShardCount.TheSendSync as shard_count
use Rattle.mx_engine.proofs.Sending.{offered_send}
use Rattle.mx_requests.specs.contracts.calls.WireCall as wire_call
use Rattle.mx_requests.specs.contracts.requests.WireServer as wire_server
use Rattle.mx_requests.specs.contracts.targets.routes.Routes as routes
use Rattle.mx_requests.specs.contracts.targets.routes.Route as route
use Rattle.mx_requests.proofs.targets.routes.Route.TheSendSync as route_of
use Rattle.matchit.specs.contracts.tree.Node as node
use Rattle.matchit.specs.contracts.router.Router as router
use Rattle.matchit.specs.contracts.router.Router.TheInside as router_inside
use Rattle.matchit.proofs.route.Route.TheSendSync as matched
use Rattle.matchit.proofs.tree.Node.TheLaws.TheKnot.{send-Node, sync-Node}
use Rattle.mx_answer_records.proofs.abouts.RequestAbout.TheSendSync as request_about
use Rattle.mx_server.specs.contracts.reading.RequestReader as request_reader
use Rattle.mx_server.specs.contracts.workers.NotedCall as noted_call

-- ---- what reads requests
node_send : IsSend node.the_row
node_send = search (send-Node, crosses, sendable) depth 20 fits 20000

node_sync : IsSync node.the_row
node_sync = search (sync-Node, crosses, sendable) depth 20 fits 20000

router_send : IsSend (router.the_row route.the_row)
router_send = view_send _ _ _ _ _ (declared_send (router_inside.the_type route.the_row) (search (node_send, matched.the_send, route_of.the_send, crosses, sendable) depth 20))

routes_send : IsSend routes.the_row
routes_send = declared_send routes.the_type (router_send, tt)

router_sync : IsSync (router.the_row route.the_row)
router_sync = view_sync _ _ _ _ _ (declared_sync (router_inside.the_type route.the_row) (search (node_sync, matched.the_sync, route_of.the_sync, crosses, sendable) depth 20))

routes_sync : IsSync routes.the_row
routes_sync = declared_sync routes.the_type (router_sync, tt)

pub reader_send : IsSend request_reader.the_row
reader_send = declared_send request_reader.the_type (declared_send wire_server.the_type (server_name.the_send, (routes_send, tt)), (shard_count.the_send, tt))

pub reader_sync : IsSync request_reader.the_row
reader_sync = declared_sync request_reader.the_type (declared_sync wire_server.the_type (server_name.the_sync, (routes_sync, tt)), (shard_count.the_sync, tt))

-- ---- what they ask for
query_send : IsSend query.the_row
query_send = variants_send query.enum (search (room_id.the_send, event_id.the_send, user_id.the_send, id_list.the_send, versions.the_send, crosses, sendable) depth 40)

call_send : IsSend wire_call.the_row
call_send = variants_send wire_call.enum (search (server_name.the_send, offered_send, query_send, crosses, sendable) depth 20)

pub noted_send : IsSend noted_call.the_row
noted_send = declared_send noted_call.the_type (request_about.the_send, (call_send, tt))
