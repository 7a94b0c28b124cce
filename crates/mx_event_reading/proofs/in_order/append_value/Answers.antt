use Rattle.std.proofs.Common.{◌++◌, ap, ap₂, sym, ◌∙◌}
use Rattle.std.proofs.lemmas.Result.{on_ok_weaker}
use Rattle.json.specs.Print.{print}
use Rattle.json.specs.Tree.{json_tokens}
use Rattle.serde_json.specs.Written.{outline}
use Rattle.serde_json.proofs.Texts.{print-outline}
use Rattle.mx_body.proofs.BackLemmas.{canonical-compact}
use Rattle.mx_event_reading.proofs.in_order.append_value.Goals as goal

pub returns-clause-ok : goal.returns-clause-ok
returns-clause-ok c =
    on_ok_weaker c.copy_value-copied.result
    (λ done.
    let (d, reads, given) = done in
    let before = given.0 ∙ c.new-writer.ensures.before ∙ ap (λ v. v.items) c.replace.ensures.value in
    let tokens = given.1 ∙ ap (λ ts. ts ++ json_tokens (outline d)) c.new-writer.ensures.tokens in (
      d,
      (
        reads,
        c.into_inner.ensures.items ∙ ap₂ (λ xs ts. xs ++ print ts) before tokens
            ∙ ap (λ x. c.args.out.now.items ++ x) (print-outline d ∙ sym (canonical-compact d reads.readable)),
      ),
    ))
    c.copy_value-copied.ensures.ok
