use Rattle.std.proofs.Common.{refl}
use Rattle.serde_json.specs.Data.{string}
use Rattle.mx_event_reading.specs.OpenTexts.{member_name}
use Rattle.mx_event_reading.proofs.OpenTextLemmas.{member-read}
use Rattle.mx_event_reading.proofs.open_texts.text_member.Goals as goal

pub returns : goal.returns
returns c = λ depth.
    member-read c.args.key (member_name c.args.key) depth (string c.in_ok-found.found.now) c.args.text.now c.begin_member.new.text _
    c.end_member.new.text c.in_ok-begun.begun c.args.reader.now c.append_text.new.reader c.end_member.new.reader
    c.in_ok-begun.ensures (c.in_ok-found.ensures.ok depth) refl c.in_ok-found.ensures.shorter c.in_ok-end_member.ensures
