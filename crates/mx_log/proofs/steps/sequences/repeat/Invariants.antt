use Rattle.std.proofs.Common.{◌≡◌, ◌≤◌, List}
use Rattle.mx_book.specs.declared.transaction_keys.TransactionKey.{TransactionKey}
use Rattle.mx_world.specs.Calls.{Start}
use Rattle.mx_world.specs.Worlds.{IsAfter}
use Rattle.mx_world.specs.declared.steps.Step.{Step}
use Rattle.mx_world.specs.declared.steps.Step.TheVariants.{Next}
use Rattle.mx_log.specs.LineRuns.{AreTaken}
use Rattle.mx_log.proofs.steps.sequences.repeat.Given as goal

-- so many turns were taken
abbrev pub invariant-loop-turn : goal.invariant-loop-turn
invariant-loop-turn g l = ((key : TransactionKey) → l.fn.step ≡ Next key → (start : Start) (earlier : List Step)
    → IsAfter start earlier l.fn.desk.rooms.world → AreTaken key l._turn start earlier l.desk.rooms.world)
    × (l._turn ≤ l.fn.count)
