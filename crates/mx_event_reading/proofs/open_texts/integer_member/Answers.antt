use Rattle.std.proofs.Common.{◌≡◌, refl, rules, of_z, to_z, w64}
use Rattle.serde_json.specs.Data.{number}
use Rattle.serde_json.specs.Find.{of_integer}
use Rattle.mx_event_reading.specs.OpenTexts.{member_name}
use Rattle.mx_event_reading.proofs.OpenTextLemmas.{member-read}
use Rattle.mx_event_reading.proofs.open_texts.integer_member.Goals as goal

pub returns : goal.returns
returns c = λ depth.
    let same : to_z w64 (of_z w64 c.in_ok-found.found) ≡ c.in_ok-found.found = search rules in
    rw same (member-read c.args.key (member_name c.args.key) depth (number (of_integer c.in_ok-found.found)) c.args.text.now c.begin_member.new.text _
    c.end_member.new.text c.in_ok-begun.begun c.args.reader.now c.append_integer.new.reader c.end_member.new.reader
    c.in_ok-begun.ensures (c.in_ok-found.ensures.ok depth) refl c.in_ok-found.ensures.shorter c.in_ok-end_member.ensures)
