use Rattle.std.proofs.Common.{◌≡◌, codes, false, true, sym, ap, ◌∙◌}
use Rattle.std.proofs.lemmas.Result.{IfOk-weaker}
use Rattle.mx_event_reading.specs.BodiesRead.{AreOffered, object_of}
use Rattle.mx_pdu.specs.Offers.{Judge, offer_by}
use Rattle.mx_redact.specs.Fields.{is_text}
use Rattle.mx_log.specs.Lines.{line_in, open_form}
use Rattle.mx_log.specs.LinesShown.{line_shown}
use Rattle.mx_log.proofs.EventsLineLemmas.{events_line}
use Rattle.mx_log.proofs.lines.line_with_events.Goals as goal

pub returns-then-is_text : goal.returns-then-is_text
returns-then-is_text c =
    let read = c.args.read in
    let opens = sym (ap (is_text (codes "open")) c.text_field.ensures) ∙ sym c.is_text.ensures ∙ c.if-is_text.true in
    IfOk-weaker c.open_read.result
    (λ line. (judges : Judge) → AreOffered judges read.events.items → line_shown line ≡ open_form (offer_by judges) (object_of read))
    (λ line. (judges : Judge) → AreOffered judges read.events.items → line_shown line ≡ line_in (offer_by judges) (object_of read))
    (λ line shown judges are. shown judges are ∙ sym (events_line read (offer_by judges) true opens))
    c.open_read.ensures

pub returns : goal.returns
returns c = λ judges are.
    let opens = sym (ap (is_text (codes "open")) c.text_field.ensures) ∙ sym c.is_text.ensures ∙ c.if-is_text.false in
    sym (events_line c.args.read (offer_by judges) false opens)
