use Rattle.std.proofs.Common.{◌++◌, subst, ◌∙◌, ap}
use Rattle.mx_requests.specs.Faults.{fault_code}
use Rattle.mx_requests.specs.Bodies.{body_end}
use Rattle.mx_requests.proofs.BodyLemmas.{written, whole}
use Rattle.mx_requests.proofs.faults.write_body.Goals as goal

pub returns : goal.returns
returns g c = λ taken had.
    let all = c.close_body.ensures _ (c.write_string-2.ensures _ (c.write_key-2.ensures _ (c.write_string.ensures _ (c.write_key.ensures _ (c.put.ensures taken had))))) in
    let code = c.as_bytes.ensures.value ∙ c.code.ensures in
    subst (g.S.TextSink.has_taken c.close_body.new.sink)
    (ap (λ code. written taken code c.args.text.now ++ body_end c.args.fault) code ∙ ap (λ text. written taken (fault_code c.args.fault) text ++ body_end c.args.fault) c.requires ∙ whole taken c.args.fault)
    all
