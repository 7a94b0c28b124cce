use Rattle.std.specs.Prelude.{◌≡◌, map, string_bytes}
use Rattle.mx_server.specs.Losses.{lost_count, loss_lines}
use Rattle.mx_server.proofs.losses.loss_lines.Given as goal

-- the lines of the books so far
abbrev pub invariant-loop-number : goal.invariant-loop-number
invariant-loop-number g l = map string_bytes l.lines.items ≡ loss_lines l.fn.directory (lost_count l.fn.server) l.number
