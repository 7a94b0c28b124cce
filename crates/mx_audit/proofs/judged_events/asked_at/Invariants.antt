use Rattle.std.proofs.Common.{◌≡◌, drop}
use Rattle.mx_audit.specs.EventLines as definition
use Rattle.mx_audit.proofs.judged_events.asked_at.Given as goal

-- what is looked for is among those that are left
abbrev pub invariant-loop-entry : goal.invariant-loop-entry
invariant-loop-entry l =
    definition.asked_at (drop l.entry-index l.asked) (l.kind, l.state_key) ≡ definition.asked_at l.asked (l.kind, l.state_key)
