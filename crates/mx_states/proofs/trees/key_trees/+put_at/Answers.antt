use Rattle.std.proofs.Common.{◌≡◌, ◌≤◌, ◌+◌, ◌/◌, ◌%◌, ◌==◌, ◌++◌, ◌∷◌, [], ℕ, cond, length, refl, ap, ◌∙◌}
use Rattle.mx_states.specs.declared.trees.key_trees.KeyTree.{KeyTree}
use Rattle.mx_states.specs.KeyTrees.{AreLower, at, below, root}
use Rattle.mx_states.proofs.KeyTreeLemmas.{changed-lower, other-test, pushed, pushed-ok, put-below, put-first}
use Rattle.mx_states.proofs.trees.key_trees.+put_at.Goals as goal

pub returns-then-place-eq1-clause-put : goal.returns-then-place-eq1-clause-put
returns-then-place-eq1-clause-put t c =
    let old = c.args.trees.now.items in
    let whole : c.root-whole.result ≡ root old c.args.tree = c.root-whole.ensures ∙ ap (λ ts. root ts c.args.tree) c.deref.ensures.value in
    let changed : KeyTree = record { event = c.args.event; even = c.root-whole.result.even; odd = c.root-whole.result.odd } in
    pushed-ok c.push_tree.result (length old + 1) (old ++ changed ∷ []) c.push_tree.new.trees.items (λ ts made. (n : ℕ) → 1 ≤ n → at ts made n ≡ cond (n == c.args.place) c.args.event (at old c.args.tree n)) c.push_tree.ensures.number c.push_tree.ensures.ok
    (put-first old c.args.tree c.args.place c.args.event changed c.requires.lower c.requires.tree c.if-place-eq1.true refl (ap (λ (k : KeyTree). k.even) whole) (ap (λ (k : KeyTree). k.odd) whole))

pub returns-clause-lower : goal.returns-clause-lower
returns-clause-lower t c =
    let old = c.args.trees.now.items in
    let others = c.put_at.new.trees.items in
    let whole : c.root-whole.result ≡ root old c.args.tree = c.root-whole.ensures ∙ ap (λ ts. root ts c.args.tree) c.deref.ensures.value in
    let changed = c.with_below-changed.result in
    pushed c.push_tree-2.result (others ++ changed ∷ []) others c.push_tree-2.new.trees.items AreLower c.push_tree-2.ensures.ok c.push_tree-2.ensures.err
    (changed-lower old others c.args.tree c.args.place c.in_ok-under.under changed c.requires.lower c.requires.tree c.in_ok-under.ensures.lower c.in_ok-under.ensures.more c.in_ok-under.ensures.tree
    (c.with_below-changed.ensures.even ∙ ap (λ (k : KeyTree). cond (c.args.place % 2 == 0) c.in_ok-under.under k.even) whole)
    (c.with_below-changed.ensures.odd ∙ ap (λ (k : KeyTree). cond (c.args.place % 2 == 0) k.odd c.in_ok-under.under) whole))
    c.in_ok-under.ensures.lower

pub returns-clause-put : goal.returns-clause-put
returns-clause-put t c =
    let old = c.args.trees.now.items in
    let others = c.put_at.new.trees.items in
    let whole : c.root-whole.result ≡ root old c.args.tree = c.root-whole.ensures ∙ ap (λ ts. root ts c.args.tree) c.deref.ensures.value in
    let under : c.below.result ≡ below (root old c.args.tree) c.args.place = c.below.ensures ∙ ap (λ k. below k c.args.place) whole in
    let changed = c.with_below-changed.result in
    pushed-ok c.push_tree-2.result (length others + 1) (others ++ changed ∷ []) c.push_tree-2.new.trees.items (λ ts made. (n : ℕ) → 1 ≤ n → at ts made n ≡ cond (n == c.args.place) c.args.event (at old c.args.tree n)) c.push_tree-2.ensures.number c.push_tree-2.ensures.ok
    (put-below old others c.args.tree c.args.place c.in_ok-under.under c.args.event changed c.requires.lower c.requires.tree c.in_ok-under.ensures.lower c.in_ok-under.ensures.more c.in_ok-under.ensures.tree
    (other-test c.args.place 1 c.if-place-eq1.false)
    (c.with_below-changed.ensures.event ∙ ap (λ (k : KeyTree). k.event) whole)
    (c.with_below-changed.ensures.even ∙ ap (λ (k : KeyTree). cond (c.args.place % 2 == 0) c.in_ok-under.under k.even) whole)
    (c.with_below-changed.ensures.odd ∙ ap (λ (k : KeyTree). cond (c.args.place % 2 == 0) k.odd c.in_ok-under.under) whole)
    (λ m some. c.in_ok-under.ensures.put m some ∙ ap (λ k. cond (m == c.args.place / 2) c.args.event (at old k m)) under))
