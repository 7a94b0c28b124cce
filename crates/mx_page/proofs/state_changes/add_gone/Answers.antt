use Rattle.std.proofs.Common.{◌++◌, ◌+◌, arith, drop, ap, ◌∙◌}
use Rattle.std.specs.List.{flat_map}
use Rattle.mx_graph.specs.StateMap.{State}
use Rattle.mx_page.specs.Changes.{gone_at}
use Rattle.mx_page.proofs.PieceLemmas.{list-on, list-all}
use Rattle.mx_page.proofs.state_changes.add_gone.Goals as goal

pub loop-entry-preserved : goal.loop-entry-preserved
loop-entry-preserved c =
    let l = c.loop-entry in
    ap (λ out. out ++ flat_map (λ e. gone_at c.args.old.now c.args.new.now e.0) (drop (l.entry-index + 1) c.entries-entry-items.result.now)) c.in_ok-add_if_gone.ensures
    ∙ list-on (λ e. gone_at c.args.old.now c.args.new.now e.0) _ _ c.entries-entry-items.result.now l.entry-index c.entry-item.result c.entry-item.result (omega arith) c.entry-item.is l.invariant

pub returns : goal.returns
returns c =
    let l = c.loop-entry in
    list-all (λ e. gone_at c.args.old.now c.args.new.now e.0) _ _ c.entries-entry-items.result.now l.entry-index (omega arith) l.invariant
    ∙ ap (λ (s : State). c.args.found.now.items ++ flat_map (λ e. gone_at c.args.old.now c.args.new.now e.0) s) c.entries-entry-items.ensures.entries
