use denote.Param.Send.{IsSend, IsSync, param_send, param_sync, arg_send, arg_sync, sendable}
use denote.Param.SendFields.{declared_send, declared_sync}
use denote.Exit.{no}
use Rattle.std.proofs.Crossing.{crosses}
use Rattle.std.proofs.sync.atomic.AtomicBool.TheSendSync as atomic
use Rattle.mx_server_tests.specs.contracts.gates.Meeting as meeting
use Rattle.mx_server_tests.specs.contracts.gates.MeetingGate as gate
use Rattle.mx_server_tests.proofs.MemorySending.{rooms_send}
use Rattle.mx_server_tests.proofs.engines.send.Goals as goal

meeting_sync : IsSync meeting.the_row
meeting_sync = declared_sync meeting.the_type (atomic.the_sync, (atomic.the_sync, (atomic.the_sync, (atomic.the_sync, (atomic.the_sync, tt)))))

meeting_send : IsSend meeting.the_row
meeting_send = declared_send meeting.the_type (atomic.the_send, (atomic.the_send, (atomic.the_send, (atomic.the_send, (atomic.the_send, tt)))))

gate_sync : IsSync gate.the_row
gate_sync = declared_sync gate.the_type (search (meeting_sync, meeting_send, crosses, sendable) depth 20, tt)

pub transaction-requires-send-K : goal.transaction-requires-send-K
transaction-requires-send-K g c κs within = param_send 0 _ (arg_send _ no _ rooms_send)

pub transaction-requires-sync-G : goal.transaction-requires-sync-G
transaction-requires-sync-G g c κs within = param_sync 3 _ (arg_sync _ no _ gate_sync)
