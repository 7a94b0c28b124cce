use Rattle.std.proofs.Common.{[], List, ℕ, ◌++◌, ap, ◌∙◌}
use Rattle.std.specs.List.{flat_map}
use Rattle.mx_audit.specs.Pictures.{arrow_text, box_text, picture_text}
use Rattle.mx_audit.proofs.pictures.lines_of_event.Goals as goal

pub returns : goal.returns
unfolding picture_text
returns c =
    c.in_ok-bytes.ensures.ok _ (c.write_arrows.ensures _ (c.write_box.ensures [] c.new-lines.ensures.text))
    ∙ ap (λ (qs : List ℕ). box_text c.args.timeline.now.kept c.args.number ++ flat_map (arrow_text c.args.number) qs) c.prev_events.ensures.cited
