use denote.Exit.{no}
use denote.Param.{param}
use denote.Param.Send.{param_send, arg_send, sendable}
use denote.Param.SendFields.{declared_send}
use Rattle.std.proofs.Crossing.{crosses}
use Rattle.std.proofs.result.Result.TheSendSync as result
use Rattle.sqlite.specs.contracts.FileStore as file_store
use Rattle.mx_keeper.below.sqlite_store.specs.contracts.store.FileStoreStore.TheImpl as file_store_store
use Rattle.sqlite_disk.specs.contracts.modelled.Modelled as modelled
use Rattle.sqlite_disk.specs.contracts.modelled.ModelledDisk.TheImpl as modelled_disk
use Rattle.sqlite_disk.specs.contracts.start.Unknown as unknown
use Rattle.sqlite_disk.specs.contracts.start.UnknownStart.TheImpl as unknown_start
use Rattle.sqlite_std_file.specs.contracts.host.Host as host
use Rattle.sqlite_std_file.specs.contracts.host.HostCalls.TheImpl as host_calls
use Rattle.sqlite.proofs.FileStore.TheSendSync as file_store_sent
use Rattle.sqlite_disk.proofs.modelled.Modelled.TheSendSync as modelled_sent
use Rattle.mx_keeper.proofs.sqlite_keepers.SqliteKeeper.TheSendSync as keeper
use Rattle.mx_directory.specs.contracts.row_openings.NotingFile as noting_file
use Rattle.mx_directory.specs.contracts.row_openings.OpenedFile as opened_file
use Rattle.mx_directory.proofs.errors.StartError.TheSendSync as start_error
use Rattle.mx_directory.proofs.row_files.RowFile.TheSendSync as row_file
use Rattle.mx_directory.proofs.directories.keepers.Goals as goal

-- a keeper over a file may be sent to another thread wherever its rows may
pub map_vec-requires-send-X : goal.map_vec-requires-send-X
map_vec-requires-send-X g c κs within =
    let disk = modelled.the_row host.the_row unknown.the_row host_calls.ghosts unknown_start.ghosts in
    let is_disk = modelled_disk.ghosts host.the_row unknown.the_row host_calls.ghosts modelled_disk.no_dict unknown_start.ghosts modelled_disk.no_dict modelled_disk.no_dict in
    param_send 2 _ (arg_send _ no _ (
    result.the_send _ _ (
    declared_send (noting_file.the_type (param 1 g.row.R) g.R.TableRow) (
      declared_send (opened_file.the_type (param 1 g.row.R) g.R.TableRow) (
        keeper.the_send (file_store.the_row disk is_disk) (param 1 g.row.R) (file_store_store.ghosts disk is_disk file_store_store.no_dict) g.R.TableRow (file_store_sent.the_send disk is_disk (modelled_sent.the_send host.the_row unknown.the_row host_calls.ghosts unknown_start.ghosts (search (crosses, sendable) depth 20 fits 20000))) (search (c.type_bounds.send-R, sendable) depth 20),
        (search sendable depth 20, tt),
      ),
      (row_file.the_send, tt),
    ))
    start_error.the_send))
