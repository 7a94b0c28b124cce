use Rattle.std.proofs.Common.{◌≡◌, Some, drop, sym, ap, ◌∙◌, arith, subst}
use Rattle.std.proofs.lemmas.List.{drop_at, take_rest}
use Rattle.json.specs.Json.{value}
use Rattle.serde_json.specs.Read.{of_json, converted}
use Rattle.serde_json.specs.View.{view}
use Rattle.mx_canon.specs.Canonical.{canonical_text}
use Rattle.mx_body.specs.Bodies.{json_of}
use Rattle.mx_body.proofs.BackLemmas.{canonical-back}
use Rattle.mx_event_reading.specs.InOrder.{IsAppended}
use Rattle.mx_event_reading.proofs.NestingLemmas.{nests}
use Rattle.mx_event_reading.proofs.contents.append_read.Goals as goal

pub returns-in-Ok-clause-ok : goal.returns-in-Ok-clause-ok
returns-in-Ok-clause-ok c =
    let (d, a) = c.in_ok-append_value.ensures.ok in
    let before = c.args.out.now.items in
    let r = c.append_value.new.reader in
    let low = nests 123 c.args.reader.now r d a.0.read in
    let back : json_of (canonical_text d) ≡ Some d = canonical-back d a.0.readable a.0.canonical (omega arith) in
    let read = c.in-Ok.ensures.ok in
    let whole = c.deref.ensures.value ∙ a.1 in
    let start = c.len-start.ensures ∙ c.args.out.now.ok.0 in
    let part = take_rest c.deref.result.now c.len-start.result ∙ ap (drop c.len-start.result) whole
    ∙ drop_at before (canonical_text d) c.len-start.result (sym start) in
    let text = ap json_of (sym part) in
    let some : Some d ≡ Some (view c.in-Ok.value) = sym back ∙ text ∙ read in
    let same : d ≡ view c.in-Ok.value = cc in
    subst (λ e. IsAppended e (converted of_json (value 123 c.args.reader.now)) r before c.append_value.new.out.items) same a
