use Rattle.std.proofs.Common.{◌≡◌, rules, subst, sym}
use Rattle.json.specs.Json.{value}
use Rattle.serde_json.specs.Data.{string}
use Rattle.serde_json.specs.Read.{of_json, converted}
use Rattle.serde_json.specs.View.{view}
use Rattle.serde_json.specs.declared.value.Value.{String, the_lemmas}
use Rattle.mx_event_reading.specs.InOrder.{IsAppended}
use Rattle.mx_event_reading.proofs.contents.append_known.Goals as goal

pub returns-then-is_text_key-clause-ok : goal.returns-then-is_text_key-clause-ok
returns-then-is_text_key-clause-ok c =
    let seen : view (String c.in_ok-from_str.field-0) ≡ string c.in_ok-text.text.now = search (rules, the_lemmas) in
    subst (λ d. IsAppended d (converted of_json (value 123 c.args.reader.now)) c.append_text.new.reader
    c.args.out.now.items c.append_text.new.out.items) (sym seen) (c.in_ok-text.ensures.ok 123)
