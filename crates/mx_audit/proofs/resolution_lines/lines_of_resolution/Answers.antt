use Rattle.std.proofs.Common.{◌++◌, [], codes, ◌∙◌, append_assoc}
use Rattle.std.specs.List.{flat_map}
use Rattle.std.specs.Str.{chars}
use Rattle.mx_audit.specs.EventLines.{conflicts_text, resolution_text, step_text}
use Rattle.mx_audit.proofs.resolution_lines.lines_of_resolution.Goals as goal

pub returns : goal.returns
unfolding resolution_text chars
returns c =
    let kept = c.args.timeline.now.kept in
    let steps = c.args.steps.now in
    let conflicted = c.deref.ensures.value in
    let power = c.deref-2.ensures.value in
    let others = c.deref-3.ensures.value in
    c.in_ok-bytes.ensures.ok _ (c.write_steps-2.ensures _ (c.write_steps.ensures _ (c.write_conflicts.ensures [] c.new-lines.ensures.text)))
    ∙ (λ i. (conflicts_text kept 0 (conflicted i) ++ flat_map (step_text kept (codes "power")) (power i)) ++ flat_map (step_text kept (codes "mainline")) (others i))
    ∙ append_assoc (conflicts_text kept 0 steps.conflicted.items) (flat_map (step_text kept (codes "power")) steps.power.items) (flat_map (step_text kept (codes "mainline")) steps.others.items)
