use Rattle.std.proofs.Common.{◌++◌, arith, ◌∙◌}
use Rattle.std.proofs.lemmas.Result.{err_from_is_err_and, on_ok_weaker}
use Rattle.sqlite.specs.Held.{state}
use Rattle.sqlite.specs.State.{HasCleanDisk}
use Rattle.sqlite.proofs.StateLemmas.{survives_then}
use Rattle.mx_keeper.specs.ShardTable.{create_first_text, create_layout_text, create_text}
use Rattle.mx_keeper.proofs.MoveLemmas.{all_empty, alone, done_behind, made_done, makes, refused_behind, refused_more, stops_create}
use Rattle.mx_keeper.proofs.ShardTableLemmas.{created_first, created_layout, created_second}
use Rattle.mx_keeper.proofs.StayLemmas.{clean_if_open}
use Rattle.mx_keeper.proofs.tables.second_layout.create_tables.Goals as goal

pub run-requires-2 : goal.run-requires-2
run-requires-2 g c live = (c.in_ok-run.ensures.ok (clean_if_open _ _ (g.met.S.Store.shut_if_dirty c.run.new.transaction.conn.now.store) live)).begun

pub run-requires-3 : goal.run-requires-3
run-requires-3 g c live = (c.in_ok-run-2.ensures.ok (clean_if_open _ _ (g.met.S.Store.shut_if_dirty c.run-2.new.transaction.conn.now.store) live)).begun

pub returns-in_err-run-clause-refused : goal.returns-in_err-run-clause-refused
returns-in_err-run-clause-refused g c clean is =
    let p = err_from_is_err_and c.from_residual.result c.from_residual.ensures.1 in
    refused_more (alone create_first_text) (alone create_text ++ alone create_layout_text) (state g.S.Store c.args.transaction.now.conn.now)
    (state g.S.Store c.run.new.transaction.conn.now) (stops_create (state g.S.Store c.args.transaction.now.conn.now)
    (state g.S.Store c.run.new.transaction.conn.now) created_first c.requires (c.in_err-run.ensures.refused clean (let told = rw (p.1, p.2) at is in cc)))

pub returns-in_err-run-2-clause-refused : goal.returns-in_err-run-2-clause-refused
returns-in_err-run-2-clause-refused g c clean is =
    let p = err_from_is_err_and c.from_residual-in_err-run-2.result c.from_residual-in_err-run-2.ensures.1 in
    let s = c.run-2.ensures.survives.clean in
    let first : HasCleanDisk (state g.S.Store c.run.new.transaction.conn.now) = omega arith in
    let one = makes created_first (state g.S.Store c.args.transaction.now.conn.now) (state g.S.Store c.run.new.transaction.conn.now) c.requires (c.in_ok-run.ensures.ok first) in
    let one_done = made_done created_first (state g.S.Store c.args.transaction.now.conn.now) (state g.S.Store c.run.new.transaction.conn.now) c.requires
    (c.in_ok-run.ensures.ok first) in
    refused_more (alone create_first_text ++ alone create_text) (alone create_layout_text) (state g.S.Store c.args.transaction.now.conn.now)
    (state g.S.Store c.run-2.new.transaction.conn.now)
    (refused_behind (alone create_first_text) (alone create_text) (state g.S.Store c.args.transaction.now.conn.now) (state g.S.Store c.run.new.transaction.conn.now)
    (state g.S.Store c.run-2.new.transaction.conn.now) (λ _. ⊥) c.run.ensures.survives first c.run-2.ensures.survives.counts (λ _. one_done)
    (stops_create (state g.S.Store c.run.new.transaction.conn.now) (state g.S.Store c.run-2.new.transaction.conn.now) created_second (λ _. one.inside)
    (c.in_err-run-2.ensures.refused clean (let told = rw (p.1, p.2) at is in cc))))

pub returns-clause-ok : goal.returns-clause-ok
returns-clause-ok g c clean =
    let t = c.run-3.ensures.survives.clean in
    let second : HasCleanDisk (state g.S.Store c.run-2.new.transaction.conn.now) = omega arith in
    let s = c.run-2.ensures.survives.clean in
    let first : HasCleanDisk (state g.S.Store c.run.new.transaction.conn.now) = omega arith in
    let one = makes created_first (state g.S.Store c.args.transaction.now.conn.now) (state g.S.Store c.run.new.transaction.conn.now) c.requires (c.in_ok-run.ensures.ok first) in
    let two = makes created_second (state g.S.Store c.run.new.transaction.conn.now) (state g.S.Store c.run-2.new.transaction.conn.now) (λ _. one.inside) (c.in_ok-run-2.ensures.ok second) in
    on_ok_weaker c.run-3.result (λ run.
    let three = makes created_layout (state g.S.Store c.run-2.new.transaction.conn.now) (state g.S.Store c.run-3.new.transaction.conn.now) (λ _. two.inside) run in
    record {
      was_open = one.was_open;
      is_open = three.is_open;
      inside = three.inside;
      committed = three.committed ∙ two.committed ∙ one.committed;
      trees_are = all_empty _ _ _ _ one.trees_are two.trees_are three.trees_are;
    }) (c.run-3.ensures.ok clean)

pub returns-clause-done : goal.returns-clause-done
returns-clause-done g c clean =
    let t = c.run-3.ensures.survives.clean in
    let second : HasCleanDisk (state g.S.Store c.run-2.new.transaction.conn.now) = omega arith in
    let s = c.run-2.ensures.survives.clean in
    let first : HasCleanDisk (state g.S.Store c.run.new.transaction.conn.now) = omega arith in
    let one = makes created_first (state g.S.Store c.args.transaction.now.conn.now) (state g.S.Store c.run.new.transaction.conn.now) c.requires (c.in_ok-run.ensures.ok first) in
    let one_done = made_done created_first (state g.S.Store c.args.transaction.now.conn.now) (state g.S.Store c.run.new.transaction.conn.now) c.requires
    (c.in_ok-run.ensures.ok first) in
    let two = makes created_second (state g.S.Store c.run.new.transaction.conn.now) (state g.S.Store c.run-2.new.transaction.conn.now) (λ _. one.inside)
    (c.in_ok-run-2.ensures.ok second) in
    let two_done = done_behind (alone create_first_text) (alone create_text) (state g.S.Store c.args.transaction.now.conn.now) (state g.S.Store c.run.new.transaction.conn.now)
    (state g.S.Store c.run-2.new.transaction.conn.now).now c.run.ensures.survives.limit one_done
    (made_done created_second (state g.S.Store c.run.new.transaction.conn.now) (state g.S.Store c.run-2.new.transaction.conn.now) (λ _. one.inside)
    (c.in_ok-run-2.ensures.ok second)) in
    let limit = c.run-2.ensures.survives.limit ∙ c.run.ensures.survives.limit in
    on_ok_weaker c.run-3.result (λ run _. done_behind (alone create_first_text ++ alone create_text) (alone create_layout_text) (state g.S.Store c.args.transaction.now.conn.now)
    (state g.S.Store c.run-2.new.transaction.conn.now) (state g.S.Store c.run-3.new.transaction.conn.now).now limit two_done
    (made_done created_layout (state g.S.Store c.run-2.new.transaction.conn.now) (state g.S.Store c.run-3.new.transaction.conn.now) (λ _. two.inside) run))
    (c.run-3.ensures.ok clean)

pub returns-clause-refused : goal.returns-clause-refused
returns-clause-refused g c clean is =
    let t = c.run-3.ensures.survives.clean in
    let second : HasCleanDisk (state g.S.Store c.run-2.new.transaction.conn.now) = omega arith in
    let s = c.run-2.ensures.survives.clean in
    let first : HasCleanDisk (state g.S.Store c.run.new.transaction.conn.now) = omega arith in
    let one = makes created_first (state g.S.Store c.args.transaction.now.conn.now) (state g.S.Store c.run.new.transaction.conn.now) c.requires (c.in_ok-run.ensures.ok first) in
    let one_done = made_done created_first (state g.S.Store c.args.transaction.now.conn.now) (state g.S.Store c.run.new.transaction.conn.now) c.requires
    (c.in_ok-run.ensures.ok first) in
    let two = makes created_second (state g.S.Store c.run.new.transaction.conn.now) (state g.S.Store c.run-2.new.transaction.conn.now) (λ _. one.inside) (c.in_ok-run-2.ensures.ok second) in
    let two_done = done_behind (alone create_first_text) (alone create_text) (state g.S.Store c.args.transaction.now.conn.now) (state g.S.Store c.run.new.transaction.conn.now)
    (state g.S.Store c.run-2.new.transaction.conn.now).now c.run.ensures.survives.limit one_done
    (made_done created_second (state g.S.Store c.run.new.transaction.conn.now) (state g.S.Store c.run-2.new.transaction.conn.now) (λ _. one.inside)
    (c.in_ok-run-2.ensures.ok second)) in
    let back = survives_then (state g.S.Store c.args.transaction.now.conn.now) (state g.S.Store c.run.new.transaction.conn.now) (state g.S.Store c.run-2.new.transaction.conn.now)
    (λ _. ⊥) (λ _. ⊥) (λ _. ⊥) (λ _ db none. none) (λ _ db none. none) c.run.ensures.survives c.run-2.ensures.survives in
    refused_behind (alone create_first_text ++ alone create_text) (alone create_layout_text) (state g.S.Store c.args.transaction.now.conn.now)
    (state g.S.Store c.run-2.new.transaction.conn.now) (state g.S.Store c.run-3.new.transaction.conn.now) (λ _. ⊥) back second c.run-3.ensures.survives.counts (λ _. two_done)
    (stops_create (state g.S.Store c.run-2.new.transaction.conn.now) (state g.S.Store c.run-3.new.transaction.conn.now) created_layout (λ _. two.inside)
    (c.run-3.ensures.refused clean is))
