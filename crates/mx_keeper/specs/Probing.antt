-- What finds whether a connection is open, for private clauses (our own).
use Rattle.std.specs.Prelude.{[], Err}
use Rattle.sqlite.specs.State.{State, Executes}
use Rattle.sqlite.specs.declared.error.Error.TheVariants.{SqliteFailure}
use Rattle.sqlite.specs.declared.error.ErrorCode.TheVariants.{OutOfMemory}

-- no memory was left for a run of the statement that does nothing
abbrev pub LacksMemory : State → State → Type 0
LacksMemory old new = Executes [] [] old new (Err (SqliteFailure OutOfMemory))
