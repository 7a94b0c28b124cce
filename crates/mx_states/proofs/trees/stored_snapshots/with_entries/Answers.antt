use Rattle.std.proofs.Common.{refl, arith}
use Rattle.mx_states.specs.declared.trees.stored_snapshots.Origin.TheVariants.{Entries}
use Rattle.mx_states.specs.declared.trees.stored_snapshots.Stored.{Stored}
use Rattle.mx_states.proofs.StoredLemmas.{made-entries}
use Rattle.mx_states.proofs.trees.stored_snapshots.with_entries.Goals as goal

pub returns-clause-sound : goal.returns-clause-sound
returns-clause-sound c =
    let trees = c.args.trees.now.items in
    let others = c.put_entries.new.trees.items in
    let s : Stored = record { origin = Entries; tree = c.in_ok-tree.tree; keys = c.keys_with-keys.result; trees = c.len.result } in
    (made-entries trees others c.args.stored.now c.args.entries.now s c.requires.sound c.in_ok-tree.ensures.more c.requires.sorted c.in_ok-tree.ensures.tree (omega (arith, c.len.ensures, c.put_entries.new.trees.ok.0))
    c.in_ok-tree.ensures.put c.keys_with-keys.ensures.all (c.keys_with-keys.ensures.few (omega arith)) refl).sound

pub returns-clause-meant : goal.returns-clause-meant
returns-clause-meant c =
    let trees = c.args.trees.now.items in
    let others = c.put_entries.new.trees.items in
    let s : Stored = record { origin = Entries; tree = c.in_ok-tree.tree; keys = c.keys_with-keys.result; trees = c.len.result } in
    (made-entries trees others c.args.stored.now c.args.entries.now s c.requires.sound c.in_ok-tree.ensures.more c.requires.sorted c.in_ok-tree.ensures.tree (omega (arith, c.len.ensures, c.put_entries.new.trees.ok.0))
    c.in_ok-tree.ensures.put c.keys_with-keys.ensures.all (c.keys_with-keys.ensures.few (omega arith)) refl).meant
