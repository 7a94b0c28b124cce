use denote.RattleType.{RattleType}
use denote.Param.Send.{IsSend, param_send, arg_send, sendable}
use denote.Param.SendFields.{declared_send, as_row_send}
use denote.Exit.{no}
use denote.Struct.Tuple.{type_at}
use denote.Struct.Declared.{row}
use denote.Struct.Field.{row_field}
use mir.Syntax.{Sym}
use Rattle.std.specs.Prelude.{codes}
use Rattle.std.proofs.Common.{◌∷◌, []}
use Rattle.std.proofs.Crossing.{Arc-send, frees, send}
use Rattle.json.proofs.scratch.Scratch.TheSendSync as scratch
use Rattle.mx_server.specs.contracts.serving.serve_by as contract
use Rattle.mx_server.specs.contracts.workers.Handler as handler
use Rattle.mx_server.specs.contracts.workers.Worker as worker
use Rattle.mx_admin.proofs.desks.DeskThread.TheSendSync as desk_thread
use Rattle.mx_server.proofs.RequestSending.{noted_send, reader_send, reader_sync}
use Rattle.mx_server.proofs.WorkerSending.{worker_send}
use Rattle.mx_server.proofs.serving.serve_by.Goals as goal

-- what a closure captures of two values may be sent where each of them may
abbrev captured : Sym → RattleType → RattleType → RattleType
captured ν A B = row (type_at ν (A ∷ B ∷ []))

captured_send : (ν : Sym) (A B : RattleType) → IsSend A → IsSend B → IsSend (captured ν A B)
captured_send ν A B a b = declared_send (type_at ν (A ∷ B ∷ [])) (as_row_send (row_field A) a, (as_row_send (row_field B) b, tt))

handler_send : (F C : RattleType) → IsSend F → IsSend C → IsSend (handler.the_row F C)
handler_send F C f c = declared_send (handler.the_type F C) (
  Arc-send _ reader_send reader_sync,
  (
    scratch.the_send _ _ send frees,
    (desk_thread.the_send, (as_row_send (row_field C) c, (as_row_send (row_field F) f, (search sendable depth 20, tt)))),
  ),
)

abbrev closure : Sym
closure = codes "mx_server::serving::fn::serve_by::answer+Self"

pub serve_on-requires-send-A : goal.serve_on-requires-send-A
serve_on-requires-send-A g c κs within = param_send 1 _ (arg_send _ no _
    (handler_send (captured closure (worker.the_row (contract.K-row g.row.K g.row.L g.row.R g.row.T) (contract.L-row g.row.K g.row.L g.row.R g.row.T) g.K.Keeper g.L.Keeper) (contract.R-row g.row.K g.row.L g.row.R g.row.T))
    (contract.R-row g.row.K g.row.L g.row.R g.row.T)
    (captured_send closure (worker.the_row (contract.K-row g.row.K g.row.L g.row.R g.row.T) (contract.L-row g.row.K g.row.L g.row.R g.row.T) g.K.Keeper g.L.Keeper) (contract.R-row g.row.K g.row.L g.row.R g.row.T)
    (worker_send (contract.K-row g.row.K g.row.L g.row.R g.row.T) (contract.L-row g.row.K g.row.L g.row.R g.row.T) g.K.Keeper g.L.Keeper c.type_bounds.send-K c.type_bounds.send-L) c.type_bounds.send-R) c.type_bounds.send-R))

pub serve_on-requires-send-A-Call : goal.serve_on-requires-send-A-Call
serve_on-requires-send-A-Call g c κs within = param_send 3 _ (arg_send _ no _ noted_send)
