use Rattle.std.proofs.Common.{refl}
use Rattle.serde_json.specs.Data.{object}
use Rattle.std.specs.Prelude.{codes}
use Rattle.mx_redact.specs.declared.event_keys.EventKey.TheVariants.{Content}
use Rattle.mx_event_reading.proofs.OpenTextLemmas.{member-read}
use Rattle.mx_event_reading.proofs.open_texts.content_member.Goals as goal

pub returns : goal.returns
returns c =
    let (ms, plain, done) = c.in_ok-known.ensures.ok in (
      ms,
      plain,
      member-read Content (codes "content") 124 (object ms) c.args.text.now c.begin_member.new.text _
          c.end_member.new.text c.in_ok-begun.begun c.args.reader.now c.append_content.new.reader c.end_member.new.reader
          c.in_ok-begun.ensures done refl c.in_ok-known.ensures.shorter c.in_ok-end_member.ensures,
    )
