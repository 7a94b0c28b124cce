use Rattle.std.proofs.Common.{refl}
use Rattle.mx_event_reading.specs.OpenTexts.{member_name}
use Rattle.mx_event_reading.proofs.OpenTextLemmas.{member-read}
use Rattle.mx_event_reading.proofs.open_texts.any_member.Goals as goal

pub returns : goal.returns
returns c =
    let (d, done) = c.in_ok-append_value.ensures.ok in (
      d,
      member-read c.args.key (member_name c.args.key) 124 d c.args.text.now c.begin_member.new.text _
          c.end_member.new.text c.in_ok-begun.begun c.args.reader.now c.append_value.new.reader c.end_member.new.reader
          c.in_ok-begun.ensures done refl c.in_ok-append_value.ensures.shorter c.in_ok-end_member.ensures,
    )
