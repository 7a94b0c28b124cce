use Rattle.std.proofs.Common.{ap, ◌∙◌, min}
use Rattle.mx_requests.proofs.targets.route_parameters.number_up_to_most.Goals as goal
use Rattle.mx_requests.proofs.DigitLemmas.{read_number, over_many}

pub returns-in-Ok : goal.returns-in-Ok
returns-in-Ok c =
    c.min.ensures ∙ ap (λ n. min n 100) (read_number c.args.text.now c.parse.result c.parse.ensures.value.0 c.requires c.in-Ok.number c.in-Ok.is)

pub returns-in-Err : goal.returns-in-Err
returns-in-Err c = over_many c.args.text.now c.parse.result c.parse.ensures.value.0 c.requires c.in-Err.field-0 c.in-Err.is
