use Rattle.std.proofs.Common.{◌≡◌, ◌∷◌, [], ◌++◌, ◌-◌, length, false, sym, ap, ◌∙◌, arith, append_assoc}
use Rattle.std.proofs.lemmas.Result.{IfOk-weaker}
use Rattle.json.specs.Token as spec
use Rattle.json.specs.Json.{items, value}
use Rattle.json.proofs.Grammar.{value-begin_array}
use Rattle.serde_json.specs.Data.{array}
use Rattle.serde_json.specs.Read.{of_json, converted}
use Rattle.serde_json.specs.Written.{items_text}
use Rattle.mx_event_reading.specs.InOrder.{strings}
use Rattle.mx_body.proofs.BackLemmas.{canonical-compact}
use Rattle.mx_body.proofs.GrammarLemmas.{converted-array}
use Rattle.mx_event_reading.proofs.InOrderLemmas.{canonical-same}
use Rattle.mx_event_reading.proofs.in_order.typed.append_event_ids.Goals as goal

pub returns-clause-ok : goal.returns-clause-ok
returns-clause-ok c =
    let ts = c.next.new.self in
    let before = c.args.out.now.items in
    let first : c.args.reader.now ≡ spec.begin_array ∷ ts = grind arith in
    IfOk-weaker c.append_ids.result _ _
    (λ ids done. λ depth some.
    let ds = strings ids.items in
    let opened = ap (λ s. converted of_json (value depth s)) first
    ∙ ap (converted of_json) (value-begin_array depth ts some)
    ∙ converted-array (items (value (depth - 1)) (length ts) ts) in
    let reads = done.0 (depth - 1) in (
      canonical-same (array ds) _ _ c.append_ids.new.reader opened reads,
      done.1 ∙ ap (λ x. x ++ items_text false ds) c.in_ok-push.ensures.items
          ∙ append_assoc before (91 ∷ []) (items_text false ds)
          ∙ ap (λ x. before ++ x) (sym (canonical-compact (array ds) reads.readable)),
    ))
    c.append_ids.ensures.ok
