use Rattle.std.proofs.Common.{◌≡◌, ◌++◌, drop}
use Rattle.std.specs.List.{flat_map}
use Rattle.mx_page.specs.Changes.{gone_at}
use Rattle.mx_page.proofs.state_changes.add_gone.Given as goal

-- what was added, with what is left to add, is the whole
abbrev pub invariant-loop-entry : goal.invariant-loop-entry
invariant-loop-entry l =
    l.found.items ++ flat_map (λ e. gone_at l.old l.new e.0) (drop l.entry-index l.entry-items)
    ≡ l.initial.found.items ++ flat_map (λ e. gone_at l.old l.new e.0) l.entry-items
