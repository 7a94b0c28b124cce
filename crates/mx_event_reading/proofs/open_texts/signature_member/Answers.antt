use Rattle.std.proofs.Common.{refl, arith}
use Rattle.std.specs.Prelude.{codes}
use Rattle.mx_redact.specs.declared.event_keys.EventKey.TheVariants.{Signatures}
use Rattle.mx_event_reading.specs.Contents.{signed}
use Rattle.mx_event_reading.proofs.OpenTextLemmas.{member-read}
use Rattle.mx_event_reading.proofs.open_texts.signature_member.Goals as goal

pub returns : goal.returns
returns c =
    member-read Signatures (codes "signatures") 124 (signed c.in_ok-found.found) c.args.text.now c.begin_member.new.text _
    c.end_member.new.text c.in_ok-begun.begun c.args.reader.now c.append_signature.new.reader c.end_member.new.reader
    c.in_ok-begun.ensures (c.in_ok-found.ensures.ok 124 (omega arith)) refl c.in_ok-found.ensures.shorter c.in_ok-end_member.ensures
