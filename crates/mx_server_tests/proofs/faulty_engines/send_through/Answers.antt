use denote.Param.Send.{IsSend, sendable, param_send, param_sync, arg_send, arg_sync}
use denote.Param.SendFields.{declared_send, declared_sync}
use denote.Exit.{no}
use Rattle.mx_engine.specs.contracts.gates.OpenGate as gate
use Rattle.mx_keeper.specs.declared.keepers.Keeper.{Ghosts}
use Rattle.mx_keeper.specs.declared.rows.ShardRow.{ShardRow}
use Rattle.mx_keeper.proofs.fault_keepers.FaultKeeper.TheSendSync as fault
use Rattle.mx_keeper.specs.contracts.fault_keepers.FaultKeeper as fault_keeper
use Rattle.mx_keeper.specs.contracts.rows.ShardRow as shard_row
use Rattle.mx_server_tests.specs.contracts.scarce_keepers.ScarceKeeper as scarce_keeper
use Rattle.mx_server_tests.specs.contracts.scarce_keepers.ScarceKeeperKeeper.TheImpl as scarce_keeping
use Rattle.mx_server_tests.proofs.MemorySending.{rooms_send}
use Rattle.mx_server_tests.proofs.faulty_engines.send_through.Goals as goal

scarce_send : IsSend scarce_keeper.the_row
scarce_send = declared_send scarce_keeper.the_type (rooms_send, (search sendable depth 20, tt))

abbrev of_scarce : Ghosts scarce_keeper.the_row.Denot ShardRow
of_scarce = scarce_keeping.ghosts

faulty_rooms_send : IsSend (fault_keeper.the_row scarce_keeper.the_row shard_row.the_row of_scarce)
faulty_rooms_send = fault.the_send scarce_keeper.the_row shard_row.the_row of_scarce scarce_send

pub transaction-requires-send-K : goal.transaction-requires-send-K
transaction-requires-send-K g c κs within = param_send 0 _ (arg_send _ no _ faulty_rooms_send)

pub transaction-requires-sync-G : goal.transaction-requires-sync-G
transaction-requires-sync-G g c κs within = param_sync 3 _ (arg_sync _ no _ (declared_sync gate.the_type tt))
