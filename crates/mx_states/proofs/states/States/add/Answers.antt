use Rattle.std.proofs.Common.{◌∙◌}
use Rattle.mx_states.proofs.ShownLemmas.{are_shown-grown, are_shown-step, states-added, states-kept, maps-grown, on_err}
use Rattle.mx_states.proofs.states.States.add.Goals as goal

pub invariant_of-self : goal.invariant_of-self
invariant_of-self c = are_shown-grown c.self.inside.keys c.entries_of.new.keys c.self.inside.snapshots c.self.invariant c.entries_of.ensures.grown c.entries_of.ensures.distinct

pub returns-in_err-entries-clause-err : goal.returns-in_err-entries-clause-err
returns-in_err-entries-clause-err c =
    on_err c.from_residual.result _ (maps-grown c.self.inside.keys c.entries_of.new.keys c.self.inside.snapshots c.entries_of.ensures.grown c.self.invariant.below ∙ c.self.view_is)

pub invariant_of-self-2 : goal.invariant_of-self-2
invariant_of-self-2 c =
    are_shown-step c.add_whole.result c.self.inside.keys c.entries_of.new.keys c.self.inside.snapshots c.add_whole.new.self c.in_ok-entries.entries.items c.self.invariant
    c.entries_of.ensures.grown c.entries_of.ensures.distinct c.in_ok-entries.ensures.below c.add_whole.ensures.added c.add_whole.ensures.err

pub returns-clause-added : goal.returns-clause-added
returns-clause-added c =
    states-added c.add_whole.result c.self.inside.keys c.entries_of.new.keys c.self.inside.snapshots c.add_whole.new.self c.in_ok-entries.entries.items c.args.self.now c.args.map.now c.self.invariant
    c.entries_of.ensures.grown c.add_whole.ensures.added c.self.view_is c.in_ok-entries.ensures.shown

pub returns-clause-err : goal.returns-clause-err
returns-clause-err c =
    states-kept c.add_whole.result c.self.inside.keys c.entries_of.new.keys c.self.inside.snapshots c.add_whole.new.self c.args.self.now c.self.invariant
    c.entries_of.ensures.grown c.add_whole.ensures.err c.self.view_is
