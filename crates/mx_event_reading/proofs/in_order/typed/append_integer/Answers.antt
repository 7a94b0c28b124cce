use Rattle.std.proofs.Common.{◌≡◌, ◌∷◌, ◌++◌, ◌&&◌, true, w64, to_z, of_z, to_z-of_z, option_map, sym, ap, ◌∙◌, arith}
use Rattle.std.specs.Fmt.{signed_decimal}
use Rattle.json.specs.Token as spec
use Rattle.json.specs.Json.{value}
use Rattle.json.proofs.Grammar.{value_is}
use Rattle.serde_json.specs.Data.{number}
use Rattle.serde_json.specs.Find.{of_integer}
use Rattle.serde_json.specs.Read.{of_json, converted}
use Rattle.mx_body.proofs.BackLemmas.{canonical-compact}
use Rattle.mx_event_reading.proofs.NumberLemmas.{SFits-exact, number_text-integer}
use Rattle.mx_event_reading.proofs.in_order.typed.append_integer.Goals as goal

pub returns-clause-ok : goal.returns-clause-ok
returns-clause-ok c = λ depth.
    let ts = c.next.new.self in
    let s = c.in-Some-Number.text.now in
    let z = c.in-Some.integer in
    let before = c.args.out.now.items in
    let first : c.args.reader.now ≡ spec.number s ∷ ts = grind arith in
    let found = c.in-Some.ensures in
    let same : to_z w64 (of_z w64 z) ≡ z = to_z-of_z (SFits-exact z found.exact) in
    let here = ap (λ s. converted of_json (value depth s)) first
    ∙ ap (converted of_json) (value_is depth (spec.number s ∷ ts))
    ∙ ap (λ o. option_map (λ b. (b, ts)) (option_map number o)) found.number in
    let text = c.in_ok-extend_from_slice.ensures.items
    ∙ ap (λ x. before ++ x) (c.as_bytes.ensures.value ∙ c.format.ensures.text) in
    rw same (
      record { read = here; readable = found.range; canonical = ap (λ b. b && true) found.exact },
      text ∙ ap (λ x. before ++ x) (ap signed_decimal same ∙ number_text-integer z
          ∙ sym (canonical-compact (number (of_integer z)) found.range)),
    )
