-- For proofs and private clauses alone.
-- What went wrong, to a log.
use Rattle.mx_log.specs.declared.input.InputError.{InputError}
use Rattle.mx_log.specs.declared.input.InputError.TheVariants as input
use Rattle.mx_log.specs.declared.logs.LinesError.{LinesError}
use Rattle.mx_log.specs.declared.logs.LinesError.TheVariants.{Memory, Read}

abbrev pub of_input : InputError → LinesError
of_input input.Memory = Memory
of_input input.Read = Read
