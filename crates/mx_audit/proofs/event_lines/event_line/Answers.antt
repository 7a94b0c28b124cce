use Rattle.std.proofs.Common.{◌≡◌, ◌<◌, true, List, Option, Some, None, length, sym, subst, ap, ap₂, ◌∙◌, arith}
use Rattle.std.specs.Prelude.{if◌then◌else◌, nat_lt}
use Rattle.std.proofs.lemmas.Bool.{lt-ltb}
use Rattle.mx_receipt.specs.Receipt.{Kept}
use Rattle.mx_audit.specs.EventLines.{event_members, event_text}
use Rattle.mx_lines.specs.Lines.{line_of}
use Rattle.mx_audit.specs.Told.{Told}
use Rattle.mx_audit.proofs.ToldLemmas.{told-lent}
use Rattle.mx_audit.proofs.event_lines.event_line.Goals as goal

pub returns : goal.returns
unfolding event_text
returns c =
    let p = c.args.number in
    let low : p < length c.timeline-timeline.result.now.kept = omega arith in
    let below : nat_lt p (length c.args.audit.now) ≡ true = lt-ltb p (length c.args.audit.now) (subst (λ ks. p < length ks) c.timeline-timeline.ensures low) in
    let is = c.in_ok-line.ensures
    ∙ ap₂ (λ (ks : List Kept) (t : Option Told). line_of (event_members ks p t)) c.timeline-timeline.ensures
    (told-lent c.as_ref.result c.in_ok-explanation.explanation c.as_ref.ensures.value ∙ c.in_ok-explanation.ensures.told) in
    ap Some is ∙ sym (ap (λ b. if b then Some (event_text c.args.audit.now p) else None) below)
