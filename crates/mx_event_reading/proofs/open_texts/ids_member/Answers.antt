use Rattle.std.proofs.Common.{refl}
use Rattle.serde_json.specs.Data.{array}
use Rattle.mx_event_reading.specs.InOrder.{strings}
use Rattle.mx_event_reading.specs.OpenTexts.{member_name}
use Rattle.mx_event_reading.proofs.OpenTextLemmas.{member-read}
use Rattle.mx_event_reading.proofs.open_texts.ids_member.Goals as goal

pub returns-clause-member : goal.returns-clause-member
returns-clause-member c = λ depth some.
    member-read c.args.key (member_name c.args.key) depth (array (strings c.in_ok-found.found.items)) c.args.text.now c.begin_member.new.text _
    c.end_member.new.text c.in_ok-begun.begun c.args.reader.now c.append_event_ids.new.reader c.end_member.new.reader
    c.in_ok-begun.ensures (c.in_ok-found.ensures.ok depth some) refl c.in_ok-found.ensures.shorter c.in_ok-end_member.ensures
