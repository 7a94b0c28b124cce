use Rattle.std.proofs.Common.{◌≡◌, ◌<◌, get_or, refl, ap, subst, ◌∙◌, arith}
use Rattle.std.specs.Prelude.{unwrap_or}
use Rattle.std.specs.List.{All}
use Rattle.std.specs.FinMap.Entries.{find}
use Rattle.std.specs.Ordering.{nat_cmp}
use Rattle.mx_states.specs.declared.trees.stored_snapshots.Origin.TheVariants.{Changes}
use Rattle.mx_states.specs.declared.trees.stored_snapshots.Stored.{Stored}
use Rattle.mx_states.specs.KeyTrees.{at_key}
use Rattle.mx_states.proofs.StoredLemmas.{made-changes}
use Rattle.mx_states.proofs.trees.stored_snapshots.with_changes.Goals as goal

pub returns-clause-sound : goal.returns-clause-sound
returns-clause-sound c =
    let trees = c.args.trees.now.items in
    let others = c.put_changes.new.trees.items in
    let all = c.args.stored.now in
    let p = c.index-stored-index.result in
    let is : p ≡ get_or all c.args.parent p = c.index-stored-index.is ∙ ap (λ n. get_or all n p) c.index.ensures in
    let s : Stored = record { origin = Changes c.args.parent c.args.changes; tree = c.in_ok-tree.tree; keys = c.keys_with-keys.result; trees = c.len.result } in
    (made-changes trees others all c.args.parent p c.args.changes.items s c.requires.sound c.in_ok-tree.ensures.more c.requires.in_range is c.in_ok-tree.ensures.tree (omega (arith, c.len.ensures, c.put_changes.new.trees.ok.0))
    (λ key. c.in_ok-tree.ensures.put key ∙ ap (λ cs. unwrap_or (find nat_cmp key cs) (at_key trees p.tree key)) c.deref.ensures.value)
    (subst (All (λ e. e.0 < c.keys_with-keys.result)) c.deref-2.ensures.value c.keys_with-keys.ensures.all)
    c.keys_with-keys.ensures.more c.keys_with-keys.ensures.few refl).sound

pub returns-clause-meant : goal.returns-clause-meant
returns-clause-meant c =
    let trees = c.args.trees.now.items in
    let others = c.put_changes.new.trees.items in
    let all = c.args.stored.now in
    let p = c.index-stored-index.result in
    let is : p ≡ get_or all c.args.parent p = c.index-stored-index.is ∙ ap (λ n. get_or all n p) c.index.ensures in
    let s : Stored = record { origin = Changes c.args.parent c.args.changes; tree = c.in_ok-tree.tree; keys = c.keys_with-keys.result; trees = c.len.result } in
    (made-changes trees others all c.args.parent p c.args.changes.items s c.requires.sound c.in_ok-tree.ensures.more c.requires.in_range is c.in_ok-tree.ensures.tree (omega (arith, c.len.ensures, c.put_changes.new.trees.ok.0))
    (λ key. c.in_ok-tree.ensures.put key ∙ ap (λ cs. unwrap_or (find nat_cmp key cs) (at_key trees p.tree key)) c.deref.ensures.value)
    (subst (All (λ e. e.0 < c.keys_with-keys.result)) c.deref-2.ensures.value c.keys_with-keys.ensures.all)
    c.keys_with-keys.ensures.more c.keys_with-keys.ensures.few refl).meant
