use Rattle.std.proofs.Common.{◌≡◌, ◌≤◌, ◌+◌, ◌++◌, ◌∷◌, [], ℕ, length, refl, ap, subst, sym, ◌∙◌, arith}
use Rattle.std.specs.Prelude.{unwrap_or}
use Rattle.std.specs.List.{All}
use Rattle.std.specs.FinMap.Entries.{find}
use Rattle.std.specs.Ordering.{nat_cmp}
use Rattle.mx_states.specs.declared.trees.key_trees.KeyTree.{KeyTree}
use Rattle.mx_states.specs.KeyTrees.{AreLower, at, halved, root}
use Rattle.mx_states.proofs.KeyTreeLemmas.{below-lower, longer, lower-more, pushed, pushed-ok}
use Rattle.mx_states.proofs.PutLemmas.{halved-places, halved-smaller, places_sum, put-parts}
use Rattle.mx_states.proofs.trees.key_trees.+put_all.Goals as goal

-- below the even places
pub put_all-requires : goal.put_all-requires
put_all-requires t c =
    let old = c.args.trees.now.items in
    let puts = c.args.puts.now in
    let whole : c.root-whole.result ≡ root old c.args.tree = c.root-whole.ensures ∙ ap (λ ts. root ts c.args.tree) c.deref.ensures.value in
    let is : c.deref-2.result.now ≡ halved 0 puts = c.deref-2.ensures.value ∙ c.in_ok-at_even.ensures in (
      (let sum = ap places_sum is in let less = halved-smaller 0 puts c.requires.places (sym c.is_empty.ensures ∙ c.if-is_empty.false) in omega (arith, c.decreases)),
      (
        c.requires.lower,
        (
          subst (λ (k : KeyTree). k.even ≤ length old) (sym whole) (below-lower old c.args.tree 0 c.requires.lower c.requires.tree),
          subst (All (λ put. 1 ≤ put.0)) (sym is) (halved-places 0 puts),
        ),
      ),
    )

-- and below the odd ones
pub put_all-requires-2 : goal.put_all-requires-2
put_all-requires-2 t c =
    let old = c.args.trees.now.items in
    let puts = c.args.puts.now in
    let whole : c.root-whole.result ≡ root old c.args.tree = c.root-whole.ensures ∙ ap (λ ts. root ts c.args.tree) c.deref.ensures.value in
    let is : c.deref-3.result.now ≡ halved 1 puts = c.deref-3.ensures.value ∙ c.in_ok-at_odd.ensures in (
      (let sum = ap places_sum is in let less = halved-smaller 1 puts c.requires.places (sym c.is_empty.ensures ∙ c.if-is_empty.false) in omega (arith, c.decreases)),
      (
        c.in_ok-even.ensures.lower,
        (
          subst (λ (k : KeyTree). k.odd ≤ length c.put_all.new.trees.items) (sym whole) (omega (arith, below-lower old c.args.tree 1 c.requires.lower c.requires.tree, longer old c.put_all.new.trees.items c.in_ok-even.ensures.more)),
          subst (All (λ put. 1 ≤ put.0)) (sym is) (halved-places 1 puts),
        ),
      ),
    )

pub returns-clause-lower : goal.returns-clause-lower
returns-clause-lower t c =
    let evens = c.put_all.new.trees.items in
    let odds = c.put_all-2.new.trees.items in
    let changed : KeyTree = record { event = c.put_first.result; even = c.in_ok-even.even; odd = c.in_ok-odd.odd } in
    pushed c.push_tree.result (odds ++ changed ∷ []) odds c.push_tree.new.trees.items AreLower c.push_tree.ensures.ok c.push_tree.ensures.err
    (lower-more odds changed c.in_ok-odd.ensures.lower (omega (arith, c.in_ok-even.ensures.tree, longer evens odds c.in_ok-odd.ensures.more)) c.in_ok-odd.ensures.tree) c.in_ok-odd.ensures.lower

pub returns-clause-put : goal.returns-clause-put
returns-clause-put t c =
    let old = c.args.trees.now.items in
    let puts = c.args.puts.now in
    let whole : c.root-whole.result ≡ root old c.args.tree = c.root-whole.ensures ∙ ap (λ ts. root ts c.args.tree) c.deref.ensures.value in
    let evens = c.put_all.new.trees.items in
    let odds = c.put_all-2.new.trees.items in
    let changed : KeyTree = record { event = c.put_first.result; even = c.in_ok-even.even; odd = c.in_ok-odd.odd } in
    let at_even : c.deref-2.result.now ≡ halved 0 puts = c.deref-2.ensures.value ∙ c.in_ok-at_even.ensures in
    let at_odd : c.deref-3.result.now ≡ halved 1 puts = c.deref-3.ensures.value ∙ c.in_ok-at_odd.ensures in
    pushed-ok c.push_tree.result (length odds + 1) (odds ++ changed ∷ []) c.push_tree.new.trees.items (λ ts made. (n : ℕ) → 1 ≤ n → at ts made n ≡ unwrap_or (find nat_cmp n puts) (at old c.args.tree n)) c.push_tree.ensures.number c.push_tree.ensures.ok
    (put-parts old evens odds c.args.tree c.in_ok-even.even c.in_ok-odd.odd puts changed c.requires.lower c.requires.tree c.in_ok-even.ensures.lower c.in_ok-even.ensures.more c.in_ok-even.ensures.tree c.in_ok-odd.ensures.lower c.in_ok-odd.ensures.more c.in_ok-odd.ensures.tree
    (c.put_first.ensures ∙ ap (λ (k : KeyTree). unwrap_or (find nat_cmp 1 puts) k.event) whole) refl refl
    (λ n some. c.in_ok-even.ensures.put n some ∙ ap (λ ps. unwrap_or (find nat_cmp n ps) (at old c.root-whole.result.even n)) at_even ∙ ap (λ (k : KeyTree). unwrap_or (find nat_cmp n (halved 0 puts)) (at old k.even n)) whole)
    (λ n some. c.in_ok-odd.ensures.put n some ∙ ap (λ ps. unwrap_or (find nat_cmp n ps) (at evens c.root-whole.result.odd n)) at_odd ∙ ap (λ (k : KeyTree). unwrap_or (find nat_cmp n (halved 1 puts)) (at evens k.odd n)) whole))
