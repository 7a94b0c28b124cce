use Rattle.std.proofs.Common.{◌≡◌, drop}
use Rattle.std.specs.Prelude.{find}
use Rattle.mx_redact.specs.Fields.{is_some_and}
use Rattle.mx_auth.specs.Rules.{key_of, same_key}
use Rattle.mx_graph.specs.Record as record_of
use Rattle.mx_receipt.specs.Receipt.{rows_of}
use Rattle.mx_audit.proofs.auth_checks.first_at.Given as goal

-- none was found, so the others decide
abbrev pub invariant-loop-event : goal.invariant-loop-event
invariant-loop-event l =
    find (λ p. is_some_and (same_key (l.kind, l.state_key)) (key_of (record_of.event (rows_of l.earlier) p))) (drop l.event-index l.events)
    ≡ find (λ p. is_some_and (same_key (l.kind, l.state_key)) (key_of (record_of.event (rows_of l.earlier) p))) l.events
