use Rattle.std.proofs.Common.{Some, ap, ◌∙◌, subst}
use Rattle.serde_json.specs.View.{view}
use Rattle.mx_event_reading.specs.BodiesRead.{IsOffered, object_of, value_of}
use Rattle.mx_requests.specs.declared.faults.Fault.TheVariants.{NotJson}
use Rattle.mx_requests.specs.Requests.{ok_or_fault}
use Rattle.mx_requests.proofs.bodies.transactions.transaction_events.Goals as goal

pub returns-in-Ok-Events-clause-ok : goal.returns-in-Ok-Events-clause-ok
returns-in-Ok-Events-clause-ok g c =
    let arm = c.in-Ok-Events in
    let judges = g.V.Verifier.judges c.args.verifier.now in (
      object_of arm.read,
      ap (ok_or_fault NotJson) (arm.ensures.value ∙ ap (λ r. Some (value_of r)) arm.field-0-is),
      c.events_read.ensures judges (subst (IsOffered judges) arm.field-0-is arm.ensures.offered),
    )

pub returns-in_ok-events-in-Ok-Value-clause-ok : goal.returns-in_ok-events-in-Ok-Value-clause-ok
returns-in_ok-events-in-Ok-Value-clause-ok g c =
    let arm = c.in-Ok-Value in (
      view arm.value,
      ap (ok_or_fault NotJson) (arm.ensures.value ∙ ap (λ r. Some (value_of r)) arm.field-0-is),
      c.in_ok-events-in-Ok-Value.ensures,
    )
