use denote.RattleType.{RattleType}
use denote.Param.Send.{IsSend, IsSync, param_sync, arg_sync, shr_sync, sendable}
use denote.Param.SendFields.{declared_send, declared_sync, variants_send, as_row_sync}
use denote.Exit.{no}
use denote.Struct.Tuple.{type_at}
use denote.Struct.Declared.{row}
use denote.Struct.Field.{row_field}
use denote.Ref.{ShrRef}
use denote.Param.{param}
use Rattle.std.specs.Prelude.{codes}
use Rattle.std.specs.contracts.alloc.Global as global
use mir.Syntax.{Sym, named}
use Rattle.std.proofs.Common.{◌∷◌, []}
use Rattle.std.proofs.Crossing.{crosses, Vec-send}
use Rattle.std.proofs.sync.atomic.AtomicBool.TheSendSync as atomic
use Rattle.mx_keeper.specs.contracts.memory.MemoryKeeper as memory_keeper
use Rattle.mx_keeper.specs.contracts.rows.ShardRow as shard_row
use Rattle.mx_keeper.specs.contracts.rows.BookRow as book_row
use Rattle.mx_pdu.specs.contracts.verifiers.PresenceVerifier as presence_verifier
use Rattle.mx_pdu.proofs.verifiers.PresenceVerifier.TheSendSync as presence
use Rattle.mx_book.proofs.transaction_keys.TransactionKey.TheSendSync as key
use Rattle.mx_engine.proofs.replies.TransactionReply.TheSendSync as reply
use Rattle.mx_engine.specs.contracts.engines.Engine as engine
use Rattle.mx_engine.proofs.Sending.{pdu_send}
use Rattle.mx_engine.proofs.SeatSending.{seat_send, engine_sync}
use Rattle.mx_server_tests.specs.contracts.callers.Caller as caller
use Rattle.mx_server_tests.specs.contracts.callers.Turn as turn
use Rattle.mx_server_tests.specs.contracts.gates.Meeting as meeting
use Rattle.mx_server_tests.specs.contracts.gates.MeetingGate as gate
use Rattle.mx_server_tests.proofs.MemorySending.{rooms_send, replies_send, of_events, of_replies}
use Rattle.mx_server_tests.proofs.callers.turns_in_threads.Lts as lts
use Rattle.mx_server_tests.proofs.callers.turns_in_threads.Goals as goal

meeting_sync : IsSync meeting.the_row
meeting_sync = declared_sync meeting.the_type (atomic.the_sync, (atomic.the_sync, (atomic.the_sync, (atomic.the_sync, (atomic.the_sync, tt)))))

meeting_send : IsSend meeting.the_row
meeting_send = declared_send meeting.the_type (atomic.the_send, (atomic.the_send, (atomic.the_send, (atomic.the_send, (atomic.the_send, tt)))))

gate_sync : IsSync gate.the_row
gate_sync = declared_sync gate.the_type (search (meeting_sync, meeting_send, crosses, sendable) depth 20, tt)

turn_send : IsSend turn.the_row
turn_send = variants_send turn.enum (tt, ((pdu_send, tt), ((key.the_send, (Vec-send _ pdu_send, tt)), tt)))

caller_send : IsSend caller.the_row
caller_send = declared_send caller.the_type (seat_send (memory_keeper.the_row shard_row.the_row) (memory_keeper.the_row book_row.the_row) of_events of_replies rooms_send replies_send, (Vec-send _ turn_send, (search (crosses, reply.the_send, sendable) depth 20, tt)))

shared : IsSync (engine.the_row (memory_keeper.the_row shard_row.the_row) (memory_keeper.the_row book_row.the_row) presence_verifier.the_row gate.the_row of_events of_replies)
shared = engine_sync (memory_keeper.the_row shard_row.the_row) (memory_keeper.the_row book_row.the_row) presence_verifier.the_row gate.the_row of_events of_replies rooms_send replies_send presence.the_sync gate_sync

pub for_each_mut-requires-send-T : goal.for_each_mut-requires-send-T
for_each_mut-requires-send-T g c κs within = search (caller_send, sendable) depth 20 fits 20000

-- what a closure captures of four values may be shared where each of them may
captured_sync : (ν : Sym) (A B C D : RattleType) → IsSync A → IsSync B → IsSync C → IsSync D → IsSync (row (type_at ν (A ∷ B ∷ C ∷ D ∷ [])))
captured_sync ν A B C D a b c d = declared_sync (type_at ν (A ∷ B ∷ C ∷ D ∷ []))
    (as_row_sync (row_field A) a, (as_row_sync (row_field B) b, (as_row_sync (row_field C) c, (as_row_sync (row_field D) d, tt))))

abbrev closure : Sym
closure = codes "mx_server_tests::callers::fn::turns_in_threads::for_each_mut+Self"

pub for_each_mut-requires-sync-F : goal.for_each_mut-requires-sync-F
for_each_mut-requires-sync-F g c κs within = param_sync 2 (lts.arg-0-2 g.row.R g.R.laws g.R.Threads-dict g.R.Wait-dict κs)
    (arg_sync _ no (row (type_at closure (ShrRef (named 6) κs.1.1.1.1.1.1.0 meeting.the_row ∷ ShrRef (named 7) κs.1.1.1.1.1.1.1.0 (param 0 g.row.R) ∷ ShrRef (named 8) κs.1.1.1.1.1.1.1.1.0 global.the_row ∷ ShrRef (named 9) κs.1.1.1.1.1.1.1.1.1.0 (engine.the_row (memory_keeper.the_row shard_row.the_row) (memory_keeper.the_row book_row.the_row) presence_verifier.the_row gate.the_row of_events of_replies) ∷ [])))
    (captured_sync closure (ShrRef (named 6) κs.1.1.1.1.1.1.0 meeting.the_row) (ShrRef (named 7) κs.1.1.1.1.1.1.1.0 (param 0 g.row.R)) (ShrRef (named 8) κs.1.1.1.1.1.1.1.1.0 global.the_row) (ShrRef (named 9) κs.1.1.1.1.1.1.1.1.1.0 (engine.the_row (memory_keeper.the_row shard_row.the_row) (memory_keeper.the_row book_row.the_row) presence_verifier.the_row gate.the_row of_events of_replies))
    (shr_sync (named 6) κs.1.1.1.1.1.1.0 meeting.the_row meeting_sync) (search (c.type_bounds.sync-R, sendable) depth 20) (search (crosses, sendable) depth 20) (shr_sync (named 9) κs.1.1.1.1.1.1.1.1.1.0 (engine.the_row (memory_keeper.the_row shard_row.the_row) (memory_keeper.the_row book_row.the_row) presence_verifier.the_row gate.the_row of_events of_replies) shared)))
