use Rattle.std.proofs.Common.{Option, option_map, ap, ap₂, ◌∙◌}
use Rattle.mx_auth.specs.declared.refusals.Rule.{Rule}
use Rattle.mx_canon.specs.Canonical.{canonical_text}
use Rattle.mx_pdu.specs.Event.{content_of}
use Rattle.mx_graph.specs.Record.{Row}
use Rattle.mx_receipt.specs.declared.verdicts.Verdict.{Verdict}
use Rattle.mx_reasons.specs.Because.{because_text}
use Rattle.mx_reasons.specs.JudgedView.{Judged}
use Rattle.mx_audit.specs.EventLines.{redacted_by}
use Rattle.mx_audit.specs.Reasons.{refusal_of}
use Rattle.mx_audit.proofs.event_lines.parts_of.Goals as goal

pub returns : goal.returns
returns c =
    let kept = c.args.timeline.now.kept in
    record {
      redactions = c.in_ok-redactions.ensures ∙ ap (λ (r : Row). redacted_by kept r.id) c.row-row.ensures;
      content = c.in_ok-content.ensures ∙ ap (λ (r : Row). canonical_text (content_of r.event)) c.row-row.ensures;
      because = c.in_ok-because.ensures ∙ ap₂ (λ (j : Judged) (refusal : Option Rule). option_map (λ rule. because_text rule j.sources j.event) refusal)
          c.judged_event.ensures (c.refusal_of-refusal.ensures ∙ ap refusal_of c.verdict.ensures);
    }
