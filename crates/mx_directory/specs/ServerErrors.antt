-- For proofs and private clauses alone.
-- Why a server does not serve, where that is for its rows.
use Rattle.mx_keeper.specs.declared.refusals.CallError.{CallError}
use Rattle.mx_keeper.specs.declared.refusals.CallError.TheVariants as call
use Rattle.mx_keeper.specs.declared.faults.KeeperFault.{KeeperFault}
use Rattle.mx_keeper.specs.declared.faults.KeeperFault.TheVariants as fault
use Rattle.mx_directory.specs.declared.errors.ServerError.{ServerError}
use Rattle.mx_directory.specs.declared.errors.ServerError.TheVariants.{Memory, Storage}

abbrev pub of_call : CallError → ServerError
of_call call.Memory = Memory
of_call call.Storage = Storage

abbrev pub of_fault : KeeperFault → ServerError
of_fault fault.Memory = Memory
of_fault fault.Store = Storage
of_fault fault.Table = Storage
