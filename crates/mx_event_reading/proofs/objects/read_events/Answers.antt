use Rattle.std.proofs.Common.{◌≡◌, ◌∷◌, length, ap, ◌∙◌, arith}
use Rattle.json.specs.Json.{items, value}
use Rattle.json.specs.Token as spec
use Rattle.json.proofs.Grammar.{value-begin_array}
use Rattle.serde_json.specs.Read.{of_json, converted}
use Rattle.mx_body.proofs.GrammarLemmas.{converted-array}
use Rattle.mx_event_reading.proofs.objects.read_events.Goals as goal

pub returns-clause-value : goal.returns-clause-value
returns-clause-value g c =
    let ts = c.next.new.self in
    let first : c.args.reader.now ≡ spec.begin_array ∷ ts = grind arith in
    ap (λ s. converted of_json (value 126 s)) first
    ∙ ap (converted of_json) (value-begin_array 126 ts (omega arith))
    ∙ converted-array (items (value 125) (length ts) ts)
    ∙ c.in_ok-events.ensures.value
