use Rattle.std.proofs.Common.{◌≡◌, length, ap, sym, ◌∙◌}
use Rattle.mx_graph.specs.StateMap.{State}
use Rattle.mx_states.specs.KeyNumbers.{AllBelow, shown}
use Rattle.mx_states.specs.Numbered.{state_at, without}
use Rattle.mx_states.specs.Entries.{overwritten}
use Rattle.mx_states.specs.SnapshotEntries.{changed, snapshot}
use Rattle.mx_states.proofs.ShownLemmas.{are_shown-grown, are_shown-step, states-added, states-kept, maps-grown, on_err, below-at, below-changed, below-longer, shown-grown, state-shown}
use Rattle.mx_states.proofs.KeyChangeLemmas.{shown-changed}
use Rattle.mx_states.proofs.states.States.apply.Goals as goal

pub invariant_of-self : goal.invariant_of-self
invariant_of-self c = are_shown-grown c.self.inside.keys c.changes_of.new.keys c.self.inside.snapshots c.self.invariant c.changes_of.ensures.grown c.changes_of.ensures.distinct

pub returns-in_err-changes-clause-err : goal.returns-in_err-changes-clause-err
returns-in_err-changes-clause-err c =
    on_err c.from_residual.result _ (maps-grown c.self.inside.keys c.changes_of.new.keys c.self.inside.snapshots c.changes_of.ensures.grown c.self.invariant.below ∙ c.self.view_is)

pub invariant_of-self-2 : goal.invariant_of-self-2
invariant_of-self-2 c =
    let old = c.self.inside.keys in
    let new = c.changes_of.new.keys in
    let maps = c.self.inside.snapshots in
    let m = snapshot maps c.args.parent in
    let changes = c.in_ok-changes.changes.items in
    let below : AllBelow (length new) m = below-longer (length old) (length new) m c.changes_of.ensures.grown.longer (below-at (length old) maps c.args.parent c.self.invariant.below) in
    are_shown-step c.apply.result old new maps c.apply.new.self (changed changes m) c.self.invariant c.changes_of.ensures.grown c.changes_of.ensures.distinct
    (below-changed (length new) changes m c.in_ok-changes.ensures.below below) c.apply.ensures.added c.apply.ensures.err

pub returns-clause-added : goal.returns-clause-added
returns-clause-added c =
    let old = c.self.inside.keys in
    let new = c.changes_of.new.keys in
    let maps = c.self.inside.snapshots in
    let m = snapshot maps c.args.parent in
    let changes = c.in_ok-changes.changes.items in
    let taken : State = c.args.taken.now in
    let puts : State = c.args.puts.now in
    let before : AllBelow (length old) m = below-at (length old) maps c.args.parent c.self.invariant.below in
    let below : AllBelow (length new) m = below-longer (length old) (length new) m c.changes_of.ensures.grown.longer before in
    let is : shown new (changed changes m) ≡ overwritten (without taken (state_at c.args.self.now c.args.parent)) puts =
    shown-changed new changes m puts taken c.changes_of.ensures.distinct c.in_ok-changes.ensures.below below c.changes_of.ensures.sorted c.in_ok-changes.ensures.found
    ∙ ap (λ s. overwritten (without taken s) puts) (shown-grown old new m c.changes_of.ensures.grown before ∙ sym (state-shown old maps c.args.self.now c.args.parent c.self.view_is)) in
    states-added c.apply.result old new maps c.apply.new.self (changed changes m) c.args.self.now (overwritten (without taken (state_at c.args.self.now c.args.parent)) puts) c.self.invariant
    c.changes_of.ensures.grown c.apply.ensures.added c.self.view_is is

pub returns-clause-err : goal.returns-clause-err
returns-clause-err c =
    states-kept c.apply.result c.self.inside.keys c.changes_of.new.keys c.self.inside.snapshots c.apply.new.self c.args.self.now c.self.invariant
    c.changes_of.ensures.grown c.apply.ensures.err c.self.view_is
