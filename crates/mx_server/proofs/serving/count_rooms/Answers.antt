use denote.Exit.{no}
use denote.Param.Send.{param_send, arg_send}
use Rattle.mx_server.specs.contracts.serving.count_rooms as contract
use Rattle.mx_server.proofs.WorkerSending.{worker_send}
use Rattle.mx_server.proofs.serving.count_rooms.Goals as goal

pub start_room_watch-requires-send-S : goal.start_room_watch-requires-send-S
start_room_watch-requires-send-S g c κs within = param_send 0 _ (arg_send _ no _
    (worker_send (contract.K-row g.row.K g.row.L g.row.R) (contract.L-row g.row.K g.row.L g.row.R) g.K.Keeper g.L.Keeper c.type_bounds.send-K c.type_bounds.send-L))
