use Rattle.mx_audit.specs.EventLines.{resolution_text}
use Rattle.std.proofs.Common.{◌∙◌}
use Rattle.mx_page.specs.Page.{resolution_lines}
use Rattle.mx_page.proofs.page_entries.lines_before.Goals as goal

pub returns : goal.returns
unfolding resolution_lines
returns c =
    c.in_ok-lines.ensures
    ∙ (λ i. resolution_text c.args.timeline.now.kept (c.in_ok-steps.ensures.conflicted i) (c.in_ok-steps.ensures.power i) (c.in_ok-steps.ensures.others i))
