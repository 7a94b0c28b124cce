use Rattle.std.proofs.Common.{sym}
use Rattle.mx_states.proofs.SnapshotEntryLemmas.{find-at, find-gap}
use Rattle.mx_states.proofs.trees.snapshot_edits.value_in.Goals as goal

pub returns-in-Ok : goal.returns-in-Ok
returns-in-Ok c = sym (find-at c.args.entries.now c.args.key c.in-Ok.place c.index-entries-place.result c.requires c.in-Ok.ensures.found)

pub returns-in-Err : goal.returns-in-Err
returns-in-Err c = sym (find-gap c.args.entries.now c.args.key c.in-Err.field-0 c.in-Err.ensures.absent)
