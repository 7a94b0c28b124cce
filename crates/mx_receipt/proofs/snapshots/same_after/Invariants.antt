use Rattle.std.proofs.Common.{◌≡◌, ◌==◌, drop}
use Rattle.std.specs.List.{list_all}
use Rattle.mx_receipt.specs.Judgements.{numbers_at}
use Rattle.mx_receipt.proofs.snapshots.same_after.Given as goal

-- what is left decides
abbrev pub invariant-loop-event : goal.invariant-loop-event
invariant-loop-event l = list_all (λ number. number == l.state) (numbers_at l.judgements l.events)
    ≡ list_all (λ number. number == l.state) (numbers_at l.judgements (drop l.event-index l.events))
