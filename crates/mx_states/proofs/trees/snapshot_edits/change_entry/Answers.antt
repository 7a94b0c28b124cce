use Rattle.std.proofs.Common.{ap, sym, set, ◌∙◌}
use Rattle.mx_states.specs.SnapshotEntries.{change, IsAt, IsGapFor}
use Rattle.mx_states.proofs.SnapshotEntryLemmas.{put-at, put-gap, remove-at, remove-gap}
use Rattle.mx_states.proofs.trees.snapshot_edits.change_entry.Goals as goal

-- the value is written over
pub returns-in-Some : goal.returns-in-Some
returns-in-Some c =
    let s = c.args.entries.now.items in
    let at : IsAt c.args.key s c.in-Ok.place = rw (← c.deref.ensures.value) c.in-Ok.ensures.found in
    ap (λ e. set s c.in-Ok.place (e.0, c.in-Some.value)) c.index_mut.ensures.value
    ∙ put-at s c.args.key c.in-Some.value c.in-Ok.place c.index_mut.result.now c.requires at ∙ ap (λ o. change c.args.key o s) (sym c.in-Some.is)

-- the entry is taken out
pub returns-in-None : goal.returns-in-None
returns-in-None c =
    let s = c.args.entries.now.items in
    let at : IsAt c.args.key s c.in-Ok.place = rw (← c.deref.ensures.value) c.in-Ok.ensures.found in
    c.remove.ensures.items ∙ remove-at s c.args.key c.in-Ok.place c.requires at ∙ ap (λ o. change c.args.key o s) (sym c.in-None.is)

-- an entry is added in the gap
pub returns-in_ok-insert-in-Err : goal.returns-in_ok-insert-in-Err
returns-in_ok-insert-in-Err c =
    let s = c.args.entries.now.items in
    let gap : IsGapFor c.args.key s c.in-Err.place = rw (← c.deref.ensures.value) c.in-Err.ensures.absent in
    c.in_ok-insert-in-Err.ensures.items ∙ put-gap s c.args.key c.in-Some-value.value c.in-Err.place gap ∙ ap (λ o. change c.args.key o s) (sym c.in-Some-value.is)

-- there was nothing to take out
pub returns-in_default : goal.returns-in_default
returns-in_default c =
    let s = c.args.entries.now.items in
    let gap : IsGapFor c.args.key s c.in-Err.place = rw (← c.deref.ensures.value) c.in-Err.ensures.absent in
    remove-gap s c.args.key c.in-Err.place gap ∙ ap (λ o. change c.args.key o s) (sym c.in_default.is)
