use Rattle.std.proofs.Common.{◌≡◌, ◌++◌, ◌∷◌, Some, false, ap, ◌∙◌, arith}
use Rattle.json.specs.Json.{read_key}
use Rattle.json.specs.Token as spec
use Rattle.mx_event_reading.specs.InOrder.{key_text}
use Rattle.mx_event_reading.proofs.contents.open_object.Goals as goal

pub returns-clause-ok : goal.returns-clause-ok
returns-clause-ok c =
    let ts = c.next.new.self in
    let k = c.in-Some.key.now in
    let first : c.args.reader.now ≡ spec.begin_object ∷ ts = grind arith in
    let named : read_key ts ≡ Some (Some k, c.next_key.new.self) = grind arith in
    record {
      inside = ts;
      first = first;
      named = named;
      utf8 = c.append_key.ensures.utf8;
      bytes_are = c.in_ok-append_key.ensures.ok ∙ ap (λ x. x ++ key_text false k) c.in_ok-push.ensures.items;
    }
