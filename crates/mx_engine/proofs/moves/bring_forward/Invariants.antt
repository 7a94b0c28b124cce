use Rattle.std.proofs.Common.{◌≡◌, ◌≤◌, length, vec_capacity}
use Rattle.mx_engine.specs.Jobs.{moved, AreMoves}
use Rattle.mx_engine.proofs.moves.bring_forward.Given as goal

abbrev pub invariant-loop-number : goal.invariant-loop-number
invariant-loop-number g l = record {
  forth : l.jobs.items ≡ moved 0 l.moves.items l.fn.jobs.items;
  within : AreMoves (length l.fn.jobs.items) 0 l.moves.items;
  few : length l.moves.items ≤ l.number;
  room : vec_capacity l.moves ≡ vec_capacity l.fn.moves;
}
