use Rattle.std.proofs.Common.{◌-◌, arith}
use Rattle.serde_json.specs.Data.{member, no_members, object, string}
use Rattle.mx_event_reading.proofs.ContentLemmas.{one_member}
use Rattle.mx_event_reading.proofs.contents.append_signature.Goals as goal

pub returns-clause-ok : goal.returns-clause-ok
returns-clause-ok c = λ depth some.
    let one = c.in_ok-one.one in
    one_member depth c.args.reader.now c.open_object.new.reader c.append_one_text.new.reader c.close_object.new.reader
    c.in_ok-server.server.now (object (member one.key.now (string one.text.now) no_members)) c.args.out.now.items
    c.open_object.new.out.items c.append_one_text.new.out.items c.close_object.new.out.items (omega arith)
    c.in_ok-server.ensures.ok (c.in_ok-one.ensures.ok (depth - 1) (omega arith)) c.in_ok-one.ensures.shorter
    c.in_ok-close_object.ensures.read c.in_ok-close_object.ensures.bytes
