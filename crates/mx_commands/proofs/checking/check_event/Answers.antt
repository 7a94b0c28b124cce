use Rattle.std.proofs.Common.{◌≡◌, Err, Some, ap, ◌∙◌}
use Rattle.serde_json.specs.View.{view}
use Rattle.mx_commands.proofs.checking.check_event.Goals as goal

pub returns-in-Err-NotAnEvent-clause-not_an_event : goal.returns-in-Err-NotAnEvent-clause-not_an_event
returns-in-Err-NotAnEvent-clause-not_an_event c = λ cause e.
    let same : c.in-Err-NotAnEvent.cause ≡ cause = cc in
    (view c.in_ok-value.value, c.in_ok-value.ensures.json, (c.in-Err-NotAnEvent.ensures.refused c.in-Err-NotAnEvent.cause).0 (ap Err c.in-Err-NotAnEvent.field-0-is) ∙ ap Some same)
