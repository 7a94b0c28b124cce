use Rattle.std.proofs.Common.{◌≡◌, ◌-◌, drop, length}
use Rattle.mx_engine.specs.Jobs.{unmoved}
use Rattle.mx_engine.proofs.moves.bring_back.Given as goal

-- the last so many moves are undone
abbrev pub invariant-loop-done : goal.invariant-loop-done
invariant-loop-done g l =
    l.jobs.items ≡ unmoved (length l.fn.moves - l.done) (drop (length l.fn.moves - l.done) l.fn.moves) l.fn.jobs.items
