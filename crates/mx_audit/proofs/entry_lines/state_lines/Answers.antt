use Rattle.std.proofs.Common.{[], ap, ◌∙◌}
use Rattle.mx_audit.specs.EventLines.{state_text}
use Rattle.mx_audit.proofs.entry_lines.state_lines.Goals as goal

pub returns : goal.returns
returns c =
    c.in_ok-bytes.ensures.ok _ (c.write_state.ensures [] c.new-lines.ensures.text)
    ∙ ap (state_text c.args.timeline.now.kept) (c.entries.ensures.entries ∙ c.in_ok-map.ensures)
