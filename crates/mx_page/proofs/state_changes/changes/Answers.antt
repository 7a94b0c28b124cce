use Rattle.std.proofs.Common.{◌++◌, ap, ◌∙◌}
use Rattle.std.specs.List.{flat_map}
use Rattle.mx_page.specs.Changes.{change_at, changes, gone_at}
use Rattle.mx_page.proofs.state_changes.changes.Goals as goal

pub returns : goal.returns
unfolding changes
returns c =
    let old = c.args.old.now in
    let new = c.args.new.now in
    c.in_ok-add_standing.ensures
    ∙ ap (λ found. found ++ flat_map (λ e. change_at old new e.0) new)
    (c.in_ok-add_gone.ensures ∙ ap (λ found. found ++ flat_map (λ e. gone_at old new e.0) old) c.new-found.ensures.items)
