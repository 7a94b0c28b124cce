use Rattle.std.proofs.Common.{◌≡◌, map, take}
use Rattle.std.specs.Prelude.{slice_index_or}
use Rattle.mx_receipt.specs.Judgements.{numbers_after}
use Rattle.mx_receipt.proofs.snapshots.states_after.Given as goal

-- those so far
abbrev pub invariant-loop-event : goal.invariant-loop-event
invariant-loop-event l = l.numbers.items ≡ map (λ event. slice_index_or (numbers_after l.judgements) event 0) (take l.event-index l.events)
