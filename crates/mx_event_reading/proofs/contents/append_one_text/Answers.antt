use Rattle.std.proofs.Common.{◌-◌}
use Rattle.serde_json.specs.Data.{string}
use Rattle.mx_event_reading.proofs.ContentLemmas.{one_member}
use Rattle.mx_event_reading.proofs.contents.append_one_text.Goals as goal

pub returns-clause-ok : goal.returns-clause-ok
returns-clause-ok c = λ depth some.
    one_member depth c.args.reader.now c.open_object.new.reader c.append_text.new.reader c.close_object.new.reader
    c.in_ok-key.key.now (string c.in_ok-text.text.now) c.args.out.now.items c.open_object.new.out.items
    c.append_text.new.out.items c.close_object.new.out.items some c.in_ok-key.ensures.ok (c.in_ok-text.ensures.ok (depth - 1))
    c.in_ok-text.ensures.shorter c.in_ok-close_object.ensures.read c.in_ok-close_object.ensures.bytes
