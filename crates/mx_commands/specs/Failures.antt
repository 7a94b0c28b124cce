-- For proofs and private clauses alone.
-- What went wrong, to the program.
use Rattle.mx_log.specs.declared.input.InputError.{InputError}
use Rattle.mx_log.specs.declared.input.InputError.TheVariants as input
use Rattle.mx_log.specs.declared.logs.LinesError.{LinesError}
use Rattle.mx_log.specs.declared.logs.LinesError.TheVariants as lines
use Rattle.mx_commands.specs.declared.output.Failure.{Failure}
use Rattle.mx_commands.specs.declared.output.Failure.TheVariants.{Memory, ReadOrWrite}

abbrev pub of_input : InputError → Failure
of_input input.Memory = Memory
of_input input.Read = ReadOrWrite

abbrev pub of_lines : LinesError → Failure
of_lines lines.Memory = Memory
of_lines lines.Read = ReadOrWrite
of_lines lines.Write = ReadOrWrite
