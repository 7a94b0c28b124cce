use Rattle.std.proofs.Common.{◌≡◌, ◌∷◌, ◌++◌, refl, sym, ap, ◌∙◌, arith}
use Rattle.json.specs.Token as spec
use Rattle.json.specs.Json.{value}
use Rattle.json.proofs.Grammar.{value_is}
use Rattle.serde_json.specs.Data.{string}
use Rattle.serde_json.specs.Read.{of_json, converted}
use Rattle.mx_body.proofs.BackLemmas.{canonical-compact}
use Rattle.mx_event_reading.proofs.in_order.typed.append_text.Goals as goal

pub returns-clause-ok : goal.returns-clause-ok
returns-clause-ok c = λ depth.
    let ts = c.next.new.self in
    let s = c.in-Some-String.text.now in
    let first : c.args.reader.now ≡ spec.string s ∷ ts = grind arith in
    let utf8 = c.append_string.ensures.utf8 in (
      record {
        read = ap (λ s. converted of_json (value depth s)) first
            ∙ ap (converted of_json) (value_is depth (spec.string s ∷ ts));
        readable = utf8;
        canonical = refl;
      },
      c.in_ok-append_string.ensures.ok ∙ ap (λ x. c.args.out.now.items ++ x) (sym (canonical-compact (string s) utf8)),
    )
