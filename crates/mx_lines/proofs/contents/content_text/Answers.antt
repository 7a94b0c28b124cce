use Rattle.std.proofs.Common.{[], ap, ◌∙◌}
use Rattle.mx_canon.specs.Canonical.{canonical_text}
use Rattle.mx_redact.specs.Fields.{Event}
use Rattle.mx_pdu.specs.Event.{content_of}
use Rattle.mx_pdu.proofs.FormatLemmas.{formed}
use Rattle.mx_lines.proofs.ScanLemmas.{content-is}
use Rattle.mx_lines.proofs.contents.content_text.Goals as goal

pub returns-in-Some : goal.returns-in-Some
returns-in-Some c =
    let event = c.args.event.now in
    c.in_ok-text.ensures.items
    ∙ content-is event _ _ (formed event c.text.ensures.well_formed).has_object c.text.ensures.keys (c.as_bytes.ensures.value ∙ c.text.ensures.text) c.in-Some.ensures

pub returns : goal.returns
returns c =
    c.in_ok-bytes.ensures.ok _ (c.write_content_of.ensures [] c.new-text.ensures.text)
    ∙ ap (λ (e : Event). canonical_text (content_of e)) (c.in_ok-whole.ensures _ c.text-2.ensures.reads)
