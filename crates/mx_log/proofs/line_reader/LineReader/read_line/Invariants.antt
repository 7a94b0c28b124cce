use Rattle.std.proofs.Common.{◌≤◌}
use Rattle.std.specs.Io.KnownBytes.{Consumes}
use Rattle.mx_log.specs.LineReading.{IsOneLine, left, turns_left}
use Rattle.mx_log.proofs.line_reader.LineReader.read_line.Given as goal

-- the line so far was taken from what was left
abbrev pub invariant-loop-self : goal.invariant-loop-self
invariant-loop-self g l = record {
  one : IsOneLine l.line.items;
  taken : Consumes (left l.fn.self (g.R.Read.remaining l.fn.input)) (left l.self (g.R.Read.remaining l.input)) l.line.items;
  fewer : turns_left l.self ≤ turns_left l.fn.self;
}

-- each turn but the last one reads
abbrev pub decreases-loop-self : goal.decreases-loop-self
decreases-loop-self g l = turns_left l.self
