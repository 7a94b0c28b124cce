use Rattle.std.specs.Io.KnownBytes.{Consumes}
use Rattle.mx_log.proofs.input.read_all.Given as goal

-- the bytes so far are those that were given
abbrev pub invariant-loop-read : goal.invariant-loop-read
invariant-loop-read g l = Consumes (g.R.Read.remaining l.fn.input) (g.R.Read.remaining l.input) l.bytes.items
