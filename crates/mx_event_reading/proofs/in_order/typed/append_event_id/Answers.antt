use Rattle.std.proofs.Common.{sym, subst}
use Rattle.json.specs.Json.{value}
use Rattle.serde_json.specs.Data.{string}
use Rattle.serde_json.specs.Read.{of_json, converted}
use Rattle.mx_event_reading.specs.InOrder.{IsAppended}
use Rattle.mx_event_reading.proofs.in_order.typed.append_event_id.Goals as goal

pub returns-in-Ok-clause-ok : goal.returns-in-Ok-clause-ok
returns-in-Ok-clause-ok c = λ depth.
    let done = c.in_ok-text.ensures.ok depth in
    subst (λ s. IsAppended (string s)
    (converted of_json
    (value depth c.args.reader.now)) c.append_text.new.reader c.args.out.now.items c.append_text.new.out.items)
    (sym c.in-Ok.ensures.ok) done
