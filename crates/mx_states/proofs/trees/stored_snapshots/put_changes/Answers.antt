use Rattle.std.proofs.Common.{◌≡◌, ◌≤◌, ◌+◌, ℕ, Result, Ok, Err, ap, subst, sym, ◌∙◌, arith}
use Rattle.std.specs.Prelude.{IfOk, unwrap_or}
use Rattle.std.specs.List.{All}
use Rattle.std.specs.FinMap.Entries.{find}
use Rattle.std.specs.Ordering.{nat_cmp}
use Rattle.mx_states.specs.KeyTrees.{at_key}
use Rattle.mx_states.proofs.PutLemmas.{find-puts, puts-places}
use Rattle.mx_states.proofs.trees.stored_snapshots.put_changes.Goals as goal

pub put_all-requires-clause-places : goal.put_all-requires-clause-places
put_all-requires-clause-places c = subst (All (λ put. 1 ≤ put.0)) (sym (c.deref.ensures.value ∙ c.in_ok-puts.ensures)) (puts-places c.args.changes.now)

if_ok : {E : Type 0} (r : Result ℕ E) (P Q : ℕ → Type 0) → IfOk r P → ((n : ℕ) → P n → Q n) → IfOk r Q
if_ok (Ok n) P Q h f = f n h
if_ok (Err e) P Q h f = tt

pub returns-clause-put : goal.returns-clause-put
returns-clause-put c =
    let old = c.args.trees.now.items in
    if_ok c.put_all.result _ (λ made. (key : ℕ) → at_key c.put_all.new.trees.items made key ≡ unwrap_or (find nat_cmp key c.args.changes.now) (at_key old c.args.tree key)) c.put_all.ensures.put
    (λ made put key.
    put (key + 1) (omega arith)
    ∙ ap (λ ps. unwrap_or (find nat_cmp (key + 1) ps) (at_key old c.args.tree key)) (c.deref.ensures.value ∙ c.in_ok-puts.ensures)
    ∙ ap (λ o. unwrap_or o (at_key old c.args.tree key)) (find-puts key c.args.changes.now))
