use Rattle.std.proofs.Common.{◌≡◌, ◌⊎◌, ◌+◌, ◌++◌, ◌∷◌, [], drop, arith, refl, subst, sym, ap, ◌∙◌, append_assoc}
use Rattle.std.proofs.lemmas.Result.{err_from_is_err_and}
use Rattle.std.proofs.lemmas.List.{drop_more, length_push}
use Rattle.sqlite.specs.Held.{state}
use Rattle.sqlite.specs.State.{HasCleanDisk}
use Rattle.sqlite.proofs.StateLemmas.{survives_then}
use Rattle.mx_keeper.specs.Connections.{MayRefuse}
use Rattle.mx_keeper.specs.Moving.{AreDone}
use Rattle.mx_keeper.specs.ShardTable.{RefusesOne, row_steps}
use Rattle.mx_keeper.proofs.MoveLemmas.{done_behind, has_more, refused_behind, refused_more, rows_then}
use Rattle.mx_keeper.proofs.StayLemmas.{clean_if_open}
use Rattle.mx_keeper.proofs.tables.second_layout.add_rows.Goals as goal

pub add_row-requires-clause-inside : goal.add_row-requires-clause-inside
add_row-requires-clause-inside g c live = (c.loop-row.invariant.added (clean_if_open _ _ (g.met.S.Store.shut_if_dirty c.loop-row.transaction.conn.now.store) live) live).inside

pub add_row-requires-clause-read : goal.add_row-requires-clause-read
add_row-requires-clause-read g c live =
    let inv = c.loop-row.invariant in
    let it = inv.added (clean_if_open _ _ (g.met.S.Store.shut_if_dirty c.loop-row.transaction.conn.now.store) live) live in
    record { all = inv.done; reads = it.trees_are.reads; counted = inv.counted ∙ sym inv.count }

pub loop-row-preserved : goal.loop-row-preserved
loop-row-preserved g c =
    let i = c.loop-row.row-index in
    let rows = c.args.rows.now in
    let inv = c.loop-row.invariant in
    let r = c.row-item.result in
    let within = c.loop-row-test.true in
    let split : drop i rows ≡ r ∷ drop (i + 1) rows = drop_more rows i r within ∙ ap (λ y. y ∷ drop (i + 1) rows) (sym c.row-item.is) in
    record {
      done = inv.done ++ r ∷ [];
      all = append_assoc inv.done (r ∷ []) (drop (i + 1) rows) ∙ ap (λ rest. inv.done ++ rest) (sym split) ∙ inv.all;
      counted = length_push inv.done r ∙ ap (λ n. n + 1) inv.counted;
      count = ap (λ n. n + 1) inv.count;
      same = c.in_ok-add_row.ensures.same_reference ∙ inv.same;
      added = λ clean live.
          let s = c.add_row.ensures.survives.clean in
          let before : HasCleanDisk (state g.S.Store c.loop-row.transaction.conn.now) = omega arith in
          let step = c.in_ok-add_row.ensures.ok clean in
          let was = inv.added before step.was_open in
          record {
            was_open = was.was_open;
            is_open = step.is_open;
            inside = step.inside;
            committed = step.committed ∙ was.committed;
            trees_are = has_more inv.done r (state g.S.Store c.args.transaction.now.conn.now).now.trees (state g.S.Store c.loop-row.transaction.conn.now).now.trees (state g.S.Store c.add_row.new.transaction.conn.now).now.trees was.trees_are step.trees_are;
          };
      made = λ clean live.
          let s = c.add_row.ensures.survives.clean in
          let before : HasCleanDisk (state g.S.Store c.loop-row.transaction.conn.now) = omega arith in
          let was = inv.made before (c.in_ok-add_row.ensures.ok clean).was_open in
          subst (λ steps. AreDone steps (state g.S.Store c.args.transaction.now.conn.now) (state g.S.Store c.add_row.new.transaction.conn.now).now)
          (rows_then inv.done r [] (inv.done ++ r ∷ []) c.loop-row.count (inv.counted ∙ sym inv.count) refl)
          (done_behind (row_steps 1 inv.done) (row_steps (c.loop-row.count + 1) (r ∷ [])) (state g.S.Store c.args.transaction.now.conn.now)
          (state g.S.Store c.loop-row.transaction.conn.now) (state g.S.Store c.add_row.new.transaction.conn.now).now inv.survives.limit was
          (c.in_ok-add_row.ensures.done clean live));
      survives = survives_then (state g.S.Store c.args.transaction.now.conn.now) (state g.S.Store c.loop-row.transaction.conn.now) (state g.S.Store c.add_row.new.transaction.conn.now) (λ _. ⊥) (λ _. ⊥) (λ _. ⊥) (λ _ db none. none) (λ _ db none. none) inv.survives c.add_row.ensures.survives;
    }

pub returns-in_err-add_row-clause-refused : goal.returns-in_err-add_row-clause-refused
returns-in_err-add_row-clause-refused g c clean is =
    let p = err_from_is_err_and c.from_residual.result c.from_residual.ensures.1 in
    let i = c.loop-row.row-index in
    let rows = c.args.rows.now in
    let inv = c.loop-row.invariant in
    let r = c.row-item.result in
    let rest = drop (i + 1) rows in
    let split : drop i rows ≡ r ∷ rest = drop_more rows i r c.loop-row-test.true ∙ ap (λ y. y ∷ rest) (sym c.row-item.is) in
    let all : inv.done ++ r ∷ rest ≡ rows = ap (λ more. inv.done ++ more) (sym split) ∙ inv.all in
    let s = c.add_row.ensures.survives.clean in
    let before : HasCleanDisk (state g.S.Store c.loop-row.transaction.conn.now) = omega arith in
    let refused = refused_more (row_steps (c.loop-row.count + 1) (r ∷ [])) (row_steps (c.loop-row.count + 1 + 1) rest) (state g.S.Store c.loop-row.transaction.conn.now)
    (state g.S.Store c.add_row.new.transaction.conn.now) (c.in_err-add_row.ensures.refused clean (let told = rw (p.1, p.2) at is in cc)) in
    subst (λ steps. MayRefuse (state g.S.Store c.args.transaction.now.conn.now) (state g.S.Store c.add_row.new.transaction.conn.now)
    ⊎ RefusesOne steps (state g.S.Store c.args.transaction.now.conn.now)) (rows_then inv.done r rest rows c.loop-row.count (inv.counted ∙ sym inv.count) all)
    (refused_behind (row_steps 1 inv.done) (row_steps (c.loop-row.count + 1) (r ∷ rest)) (state g.S.Store c.args.transaction.now.conn.now)
    (state g.S.Store c.loop-row.transaction.conn.now) (state g.S.Store c.add_row.new.transaction.conn.now) (λ _. ⊥) inv.survives before c.add_row.ensures.survives.counts
    (inv.made before) refused)
