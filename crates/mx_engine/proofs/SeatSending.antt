-- Seats and engines may cross threads wherever their keepers may.
use denote.RattleType.{RattleType}
use denote.Param.Send.{IsSend, IsSync, sendable}
use denote.Param.SendFields.{declared_send, declared_sync}
use denote.Ref.{NamedLft}
use Rattle.std.proofs.Crossing.{Box-send, Vec-send, Vec-sync, Deque-send, crosses}
use Rattle.mx_ident.proofs.server_names.ServerName.TheSendSync as server_name
use Rattle.mx_keeper.specs.declared.keepers.Keeper.{Ghosts}
use Rattle.mx_keeper.specs.declared.rows.ShardRow.{ShardRow}
use Rattle.mx_keeper.specs.declared.rows.BookRow.{BookRow}
use Rattle.mx_keeper.proofs.caller.Caller.TheSendSync as caller
use Rattle.mx_keeper.proofs.places.Place.TheSendSync as place
use Rattle.mx_world.proofs.answers.Told.TheSendSync as told
use Rattle.mx_dock.specs.contracts.docks.Dock as docks
use Rattle.mx_dock.proofs.berths.Berth.TheSendSync as berth
use Rattle.mx_dock.proofs.docks.Dock.TheSendSync as dock
use Rattle.crossbeam_utils.specs.contracts.cache_padded.CachePadded as padding
use Rattle.crossbeam_utils.proofs.cache_padded.CachePadded.TheSendSync as padded
use Rattle.mx_shard.specs.contracts.entries.ShardEntry as shard_entry
use Rattle.mx_book.specs.contracts.entries.BookEntry as book_entry
use Rattle.mx_engine.specs.contracts.docked.DockedShard as docked_shard
use Rattle.mx_engine.specs.contracts.docked.DockedBook as docked_book
use Rattle.mx_engine.specs.contracts.docked.DockedShardJournaled.TheImpl as shard_journaled
use Rattle.mx_engine.specs.contracts.docked.DockedBookJournaled.TheImpl as book_journaled
use Rattle.mx_engine.specs.contracts.seats.Seat as seat
use Rattle.mx_engine.specs.contracts.jobs.Job as job
use Rattle.mx_engine.specs.contracts.calls.ShardTurns as turns
use Rattle.mx_engine.specs.contracts.offering.Offering as offering
use Rattle.mx_engine.proofs.faults.Fault.TheSendSync as fault
use Rattle.mx_engine.specs.contracts.engines.Engine as engine
use Rattle.mx_engine.proofs.Sending.{shard_send, book_send}

pub docked_shard_send : (K : RattleType) (g : Ghosts K.Denot ShardRow) → IsSend K → IsSend (docked_shard.the_row K g)
docked_shard_send K g k = declared_send (docked_shard.the_type K g) (Box-send _ (shard_send K g k), tt)

pub docked_book_send : (L : RattleType) (g : Ghosts L.Denot BookRow) → IsSend L → IsSend (docked_book.the_row L g)
docked_book_send L g l = declared_send (docked_book.the_type L g) (Box-send _ (book_send L g l), tt)

pub seat_send : (K L : RattleType) (g : Ghosts K.Denot ShardRow) (h : Ghosts L.Denot BookRow) → IsSend K → IsSend L
    → IsSend (seat.the_row K L g h)
seat_send K L g h k l = declared_send (seat.the_type K L g h) (
  caller.the_send,
  (
    Vec-send _ (berth.the_send (docked_shard.the_row K g) shard_entry.the_row (docked_shard_send K g k)),
    (
      Vec-send _ (berth.the_send (docked_book.the_row L h) book_entry.the_row (docked_book_send L h l)),
      (Vec-send _ (shard_send K g k), (Vec-send _ (book_send L h l), tt)),
    ),
  ),
)

pub job_send : (K : RattleType) (g : Ghosts K.Denot ShardRow) → IsSend K → IsSend (job.the_row K g)
job_send K g k = declared_send (job.the_type K g) (
  place.the_send,
  (
    berth.the_send (docked_shard.the_row K g) shard_entry.the_row (docked_shard_send K g k),
    (search sendable depth 20, (Deque-send _ told.the_send, (search (fault.the_send, crosses, sendable) depth 20, tt))),
  ),
)

-- a dock of a shard, with nothing else on its cache lines
abbrev pub padded_row : (K : RattleType) → Ghosts K.Denot ShardRow → RattleType
padded_row K g = padding.the_row
    (docks.the_row (docked_shard.the_row K g) shard_entry.the_row
    (shard_journaled.ghosts K g shard_journaled.no_dict shard_journaled.no_dict))

pub padded_sync : (K : RattleType) (g : Ghosts K.Denot ShardRow) → IsSend K → IsSync (padded_row K g)
padded_sync K g k = padded.the_sync _
    (dock.the_sync (docked_shard.the_row K g) shard_entry.the_row
    (shard_journaled.ghosts K g shard_journaled.no_dict shard_journaled.no_dict) (docked_shard_send K g k))

pub turns_sync : (l : NamedLft) (R K G : RattleType) (g : Ghosts K.Denot ShardRow) → IsSync R → IsSend K → IsSync G
    → IsSync (turns.the_row l R K G g)
turns_sync l R K G g r k w = declared_sync (turns.the_type l R K G g) (
  search (r, sendable) depth 20,
  (search (w, sendable) depth 20, (search (padded_sync K g k, sendable) depth 20, (caller.the_sync, tt))),
)

pub offering_sync : (l : NamedLft) (R K G : RattleType) (g : Ghosts K.Denot ShardRow) → IsSync R → IsSend K → IsSync G
    → IsSync (offering.the_row l R K G g)
offering_sync l R K G g r k w = declared_sync (offering.the_type l R K G g)
    (turns_sync l R K G g r k w, (search (server_name.the_sync, sendable) depth 20, tt))

pub engine_sync : (K L V G : RattleType) (g : Ghosts K.Denot ShardRow) (h : Ghosts L.Denot BookRow) → IsSend K → IsSend L
    → IsSync V → IsSync G → IsSync (engine.the_row K L V G g h)
engine_sync K L V G g h k l v w = declared_sync (engine.the_type K L V G g h) (
  Vec-sync _ (padded.the_sync _
      (dock.the_sync (docked_shard.the_row K g) shard_entry.the_row
      (shard_journaled.ghosts K g shard_journaled.no_dict shard_journaled.no_dict) (docked_shard_send K g k))),
  (
    Vec-sync _ (padded.the_sync _
        (dock.the_sync (docked_book.the_row L h) book_entry.the_row
        (book_journaled.ghosts L h book_journaled.no_dict book_journaled.no_dict) (docked_book_send L h l))),
    (search (v, sendable) depth 20, (search (w, sendable) depth 20, (search sendable depth 20, tt))),
  ),
)
