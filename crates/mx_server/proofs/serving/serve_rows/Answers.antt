use denote.Exit.{no}
use denote.Param.Send.{param_send, arg_send}
use Rattle.mx_directory.proofs.watched_keepers.WatchedKeeper.TheSendSync as watched
use Rattle.mx_keeper.specs.contracts.rows.ShardRow as shard_row
use Rattle.mx_keeper.specs.contracts.tables.shard_tables.ShardRowTableRow.TheImpl as shard_table
use Rattle.mx_server.specs.contracts.serving.serve_rows as contract
use Rattle.mx_server.proofs.WorkerSending.{shard_row_send}
use Rattle.mx_server.proofs.serving.serve_rows.Goals as goal

pub listen-requires-send-K : goal.listen-requires-send-K
listen-requires-send-K g c κs within = param_send 0 _ (arg_send _ no _
    (watched.the_send (contract.S-row g.row.S g.row.R g.row.W g.row.E) shard_row.the_row g.S.Store shard_table.ghosts c.type_bounds.send-S shard_row_send))
