use Rattle.std.proofs.Common.{ap, sym, ◌∙◌, Some}
use Rattle.mx_requests.proofs.TextLemmas.{is_text, is_no_text}
use Rattle.mx_requests.proofs.requests.text_of.Goals as goal

pub returns-in-Ok : goal.returns-in-Ok
returns-in-Ok c = ap Some c.in-Ok.ensures.cases.0 ∙ sym (is_text c.args.bytes.now c.in-Ok.ensures.cases.1)

pub returns-in-Err : goal.returns-in-Err
returns-in-Err c = sym (is_no_text c.args.bytes.now c.in-Err.ensures.cases.0)
