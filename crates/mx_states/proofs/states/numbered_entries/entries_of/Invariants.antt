use Rattle.std.proofs.Common.{take}
use Rattle.mx_states.proofs.ShownLemmas.{AreEntries}
use Rattle.mx_states.proofs.states.numbered_entries.entries_of.Given as goal

abbrev pub invariant-loop-entry : goal.invariant-loop-entry
invariant-loop-entry l = AreEntries l.initial.keys l.keys l.entries.items (take l.entry-index l.entry-items)
