-- For proofs and private clauses alone.
-- What the refusals of a reading are to `check`.
use Rattle.mx_canon.specs.declared.reading.ReadError.{ReadError}
use Rattle.mx_canon.specs.declared.reading.ReadError.TheVariants as read
use Rattle.mx_commands.specs.declared.checking.CheckError.{CheckError}
use Rattle.mx_commands.specs.declared.checking.CheckError.TheVariants.{Memory, NotJson, NotCanonical}

abbrev pub of_reading : ReadError → CheckError
of_reading read.Memory = Memory
of_reading read.NotJson = NotJson
of_reading (read.NotCanonical cause) = NotCanonical cause
