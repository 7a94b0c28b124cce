-- Workers may be sent between threads wherever the keepers of their rows may.
use denote.RattleType.{RattleType}
use denote.Param.Send.{IsSend, IsSync, view_send, sendable}
use denote.Param.SendFields.{declared_send, declared_sync}
use Rattle.std.proofs.Crossing.{Arc-send, Arc-sync, Vec-send}
use Rattle.mx_keeper.specs.declared.keepers.Keeper.{Ghosts}
use Rattle.mx_keeper.specs.declared.rows.ShardRow.{ShardRow}
use Rattle.mx_keeper.specs.declared.rows.BookRow.{BookRow}
use Rattle.mx_keeper.proofs.caller.Caller.TheSendSync as caller
use Rattle.mx_keeper.specs.contracts.rows.ShardRow as shard_row
use Rattle.mx_ident.proofs.room_ids.RoomId.TheSendSync as room_id
use Rattle.mx_ident.proofs.server_names.ServerName.TheSendSync as server_name
use Rattle.mx_dock.proofs.docks.Dock.TheSendSync as dock
use Rattle.crossbeam_utils.proofs.cache_padded.CachePadded.TheSendSync as padded
use Rattle.mx_pdu.specs.contracts.verifiers.PresenceVerifier as presence_verifier
use Rattle.mx_pdu.proofs.verifiers.PresenceVerifier.TheSendSync as presence
use Rattle.mx_shard.specs.contracts.entries.ShardEntry as shard_entry
use Rattle.mx_book.specs.contracts.entries.BookEntry as book_entry
use Rattle.mx_engine.specs.contracts.docked.DockedShard as docked_shard
use Rattle.mx_engine.specs.contracts.docked.DockedBook as docked_book
use Rattle.mx_engine.specs.contracts.docked.DockedShardJournaled.TheImpl as shard_journaled
use Rattle.mx_engine.specs.contracts.docked.DockedBookJournaled.TheImpl as book_journaled
use Rattle.mx_engine.specs.contracts.engines.Engine as engine
use Rattle.mx_engine.specs.contracts.gates.OpenGate as open_gate
use Rattle.mx_engine.proofs.gates.OpenGate.TheSendSync as gate
use Rattle.mx_engine.proofs.Sending.{pdu_send}
use Rattle.mx_engine.proofs.SeatSending.{docked_shard_send, docked_book_send, seat_send, engine_sync}
use Rattle.mx_directory.proofs.row_files.RowFiles.TheSendSync as row_files
use Rattle.mx_server.specs.contracts.workers.Shared as shared
use Rattle.mx_server.specs.contracts.workers.Worker as worker
use Rattle.mx_server.specs.contracts.workers.Worker.TheInside as worker_inside

pub shard_row_send : IsSend shard_row.the_row
shard_row_send = search (room_id.the_send, pdu_send, caller.the_send, sendable) depth 20 fits 20000

engine_send : (K L V G : RattleType) (g : Ghosts K.Denot ShardRow) (h : Ghosts L.Denot BookRow) → IsSend K → IsSend L → IsSend V → IsSend G → IsSend (engine.the_row K L V G g h)
engine_send K L V G g h k l v w = declared_send (engine.the_type K L V G g h) (
  Vec-send _ (padded.the_send _ (dock.the_send (docked_shard.the_row K g) shard_entry.the_row (shard_journaled.ghosts K g shard_journaled.no_dict shard_journaled.no_dict) (docked_shard_send K g k))),
  (
    Vec-send _ (padded.the_send _ (dock.the_send (docked_book.the_row L h) book_entry.the_row (book_journaled.ghosts L h book_journaled.no_dict book_journaled.no_dict) (docked_book_send L h l))),
    (search (v, sendable) depth 20, (search (w, sendable) depth 20, (search sendable depth 20, tt))),
  ),
)

module _ (K L : RattleType) (g : Ghosts K.Denot ShardRow) (h : Ghosts L.Denot BookRow) (k : IsSend K) (l : IsSend L) where
  shared_send : IsSend (shared.the_row K L g h)
  shared_send = declared_send (shared.the_type K L g h) (
    engine_send K L presence_verifier.the_row open_gate.the_row g h k l presence.the_send gate.the_send,
    (server_name.the_send, (Arc-send _ row_files.the_send row_files.the_sync, tt)),
  )

  shared_sync : IsSync (shared.the_row K L g h)
  shared_sync = declared_sync (shared.the_type K L g h) (
    engine_sync K L presence_verifier.the_row open_gate.the_row g h k l presence.the_sync gate.the_sync,
    (server_name.the_sync, (Arc-sync _ row_files.the_send row_files.the_sync, tt)),
  )

  pub worker_send : IsSend (worker.the_row K L g h)
  worker_send = view_send _ _ _ _ _ (declared_send (worker_inside.the_type K L g h) (Arc-send _ shared_send shared_sync, (seat_send K L g h k l, tt)))
