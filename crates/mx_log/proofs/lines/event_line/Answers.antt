use Rattle.std.proofs.Common.{◌≡◌, Some, sym, ap, subst, ⊎_elim, ◌∙◌, IfOk}
use Rattle.std.specs.Prelude.{None}
use Rattle.std.proofs.lemmas.Result.{IfOk-weaker}
use Rattle.serde_json.specs.View.{view}
use Rattle.mx_event_reading.specs.BodiesRead.{AreOffered, IsOffered, object_of, value_of}
use Rattle.mx_log.specs.Lines.{Line, line_in, read_line}
use Rattle.mx_log.specs.LinesShown.{line_shown}
use Rattle.mx_pdu.specs.Offers.{Judge, offer_by}
use Rattle.mx_requests.specs.Requests.{json_of}
use Rattle.mx_log.proofs.LineLemmas.{reads, reads_nothing}
use Rattle.mx_log.proofs.lines.event_line.Goals as goal

pub returns-in-Ok-Value : goal.returns-in-Ok-Value
returns-in-Ok-Value g c =
    let arm = c.in-Ok-Value in
    let is = arm.ensures.value ∙ ap (λ r. Some (value_of r)) arm.field-0-is in
    subst (λ (found : Line). IfOk c.line_of.result (λ line. line_shown line ≡ found))
    (sym (reads (offer_by (g.V.Verifier.judges c.args.verifier.now)) c.args.line.now (view arm.value) is))
    c.line_of.ensures

pub returns-in-Ok-Events : goal.returns-in-Ok-Events
returns-in-Ok-Events g c =
    let arm = c.in-Ok-Events in
    let judges = g.V.Verifier.judges c.args.verifier.now in
    let is = arm.ensures.value ∙ ap (λ r. Some (value_of r)) arm.field-0-is in
    let are = subst (IsOffered judges) arm.field-0-is arm.ensures.offered in
    IfOk-weaker c.line_with_events.result
    (λ line. (judges : Judge) → AreOffered judges arm.read.events.items → line_shown line ≡ line_in (offer_by judges) (object_of arm.read))
    (λ line. line_shown line ≡ read_line (offer_by judges) c.args.line.now)
    (λ line shown. shown judges are ∙ sym (reads (offer_by judges) c.args.line.now (object_of arm.read) is))
    c.line_with_events.ensures

pub returns-in-Err-NotJson : goal.returns-in-Err-NotJson
returns-in-Err-NotJson g c =
    let arm = c.in-Err-NotJson in
    let none : json_of c.args.line.now ≡ None = ⊎_elim (λ memory. let other = sym arm.field-0-is ∙ memory in absurd (cc)) (λ found. found.1) arm.ensures.err in
    sym (reads_nothing (offer_by (g.V.Verifier.judges c.args.verifier.now)) c.args.line.now none)
