use Rattle.std.proofs.Common.{◌≤◌, ◌++◌, arith, ◌∙◌}
use Rattle.std.proofs.lemmas.Result.{err_from_is_err_and, on_ok_weaker}
use Rattle.sqlite.specs.Held.{state}
use Rattle.sqlite.specs.State.{HasCleanDisk}
use Rattle.mx_keeper.specs.Moving.{drop_steps}
use Rattle.mx_keeper.specs.ShardTable.{fill_steps, number_steps, row_steps, table_steps}
use Rattle.mx_keeper.proofs.MoveLemmas.{laid_out, reads_none, refused_behind, refused_more}
use Rattle.mx_keeper.proofs.StayLemmas.{clean_if_open}
use Rattle.mx_keeper.proofs.tables.second_layout.fill.Goals as goal

pub create_tables-requires : goal.create_tables-requires
create_tables-requires g c live = (c.in_ok-drop_first.ensures.ok (clean_if_open _ _ (g.met.S.Store.shut_if_dirty c.drop_first.new.transaction.conn.now.store) live) live).inside

pub add_rows-requires-clause-inside : goal.add_rows-requires-clause-inside
add_rows-requires-clause-inside g c live = (c.in_ok-create_tables.ensures.ok (clean_if_open _ _ (g.met.S.Store.shut_if_dirty c.create_tables.new.transaction.conn.now.store) live)).inside

pub add_rows-requires-clause-empty : goal.add_rows-requires-clause-empty
add_rows-requires-clause-empty g c live = reads_none (state g.S.Store c.create_tables.new.transaction.conn.now).now.trees (c.in_ok-create_tables.ensures.ok (clean_if_open _ _ (g.met.S.Store.shut_if_dirty c.create_tables.new.transaction.conn.now.store) live)).trees_are.second

pub add_number-requires-clause-inside : goal.add_number-requires-clause-inside
add_number-requires-clause-inside g c live = (c.in_ok-add_rows.ensures.ok (clean_if_open _ _ (g.met.S.Store.shut_if_dirty c.add_rows.new.transaction.conn.now.store) live) live).inside

pub add_number-requires-clause-empty : goal.add_number-requires-clause-empty
add_number-requires-clause-empty g c live =
    let clean = clean_if_open _ _ (g.met.S.Store.shut_if_dirty c.add_rows.new.transaction.conn.now.store) live in
    let s = c.add_rows.ensures.survives.clean in
    let before : HasCleanDisk (state g.S.Store c.create_tables.new.transaction.conn.now) = omega (arith, s, clean) in
    (c.in_ok-add_rows.ensures.ok clean live).trees_are.others.third ∙ (c.in_ok-create_tables.ensures.ok before).trees_are.third

pub returns-in_err-drop_first-clause-refused : goal.returns-in_err-drop_first-clause-refused
returns-in_err-drop_first-clause-refused g c clean is =
    let p = err_from_is_err_and c.from_residual.result c.from_residual.ensures.1 in
    refused_more (drop_steps c.args.had_first) (fill_steps c.args.rows.now) (state g.S.Store c.args.transaction.now.conn.now)
    (state g.S.Store c.drop_first.new.transaction.conn.now) (c.in_err-drop_first.ensures.refused clean (let told = rw (p.1, p.2) at is in cc))

pub returns-in_err-create_tables-clause-refused : goal.returns-in_err-create_tables-clause-refused
returns-in_err-create_tables-clause-refused g c clean is =
    let p = err_from_is_err_and c.from_residual-in_err-create_tables.result c.from_residual-in_err-create_tables.ensures.1 in
    let s = c.create_tables.ensures.survives.clean in
    let first : HasCleanDisk (state g.S.Store c.drop_first.new.transaction.conn.now) = omega arith in
    refused_behind (drop_steps c.args.had_first) (fill_steps c.args.rows.now) (state g.S.Store c.args.transaction.now.conn.now)
    (state g.S.Store c.drop_first.new.transaction.conn.now) (state g.S.Store c.create_tables.new.transaction.conn.now) (λ _. ⊥) c.drop_first.ensures.survives first
    (c.create_tables.ensures.survives.counts) (λ live. c.in_ok-drop_first.ensures.done first live)
    (refused_more table_steps (row_steps 1 c.args.rows.now ++ number_steps) (state g.S.Store c.drop_first.new.transaction.conn.now)
    (state g.S.Store c.create_tables.new.transaction.conn.now) (c.in_err-create_tables.ensures.refused clean (let told = rw (p.1, p.2) at is in cc)))

pub returns-in_err-add_rows-clause-refused : goal.returns-in_err-add_rows-clause-refused
returns-in_err-add_rows-clause-refused g c clean is =
    let p = err_from_is_err_and c.from_residual-in_err-add_rows.result c.from_residual-in_err-add_rows.ensures.1 in
    let t = c.add_rows.ensures.survives.clean in
    let second : HasCleanDisk (state g.S.Store c.create_tables.new.transaction.conn.now) = omega arith in
    let s = c.create_tables.ensures.survives.clean in
    let first : HasCleanDisk (state g.S.Store c.drop_first.new.transaction.conn.now) = omega arith in
    let few : (state g.S.Store c.drop_first.new.transaction.conn.now).faults ≤ (state g.S.Store c.add_rows.new.transaction.conn.now).faults = omega
    (arith, c.create_tables.ensures.survives.counts, c.add_rows.ensures.survives.counts) in
    refused_behind (drop_steps c.args.had_first) (fill_steps c.args.rows.now) (state g.S.Store c.args.transaction.now.conn.now)
    (state g.S.Store c.drop_first.new.transaction.conn.now) (state g.S.Store c.add_rows.new.transaction.conn.now) (λ _. ⊥) c.drop_first.ensures.survives first (few)
    (λ live. c.in_ok-drop_first.ensures.done first live)
    (refused_behind table_steps (row_steps 1 c.args.rows.now ++ number_steps) (state g.S.Store c.drop_first.new.transaction.conn.now)
    (state g.S.Store c.create_tables.new.transaction.conn.now) (state g.S.Store c.add_rows.new.transaction.conn.now)
    (λ _. ⊥) c.create_tables.ensures.survives second c.add_rows.ensures.survives.counts (λ live. c.in_ok-create_tables.ensures.done second live)
    (refused_more (row_steps 1 c.args.rows.now) number_steps (state g.S.Store c.create_tables.new.transaction.conn.now) (state g.S.Store c.add_rows.new.transaction.conn.now)
    (c.in_err-add_rows.ensures.refused clean (let told = rw (p.1, p.2) at is in cc))))

pub returns-clause-ok : goal.returns-clause-ok
returns-clause-ok g c clean =
    let u = c.add_number.ensures.survives.clean in
    let third : HasCleanDisk (state g.S.Store c.add_rows.new.transaction.conn.now) = omega arith in
    let t = c.add_rows.ensures.survives.clean in
    let second : HasCleanDisk (state g.S.Store c.create_tables.new.transaction.conn.now) = omega arith in
    let s = c.create_tables.ensures.survives.clean in
    let first : HasCleanDisk (state g.S.Store c.drop_first.new.transaction.conn.now) = omega arith in
    let made = c.in_ok-create_tables.ensures.ok second in
    let begun = c.in_ok-drop_first.ensures.ok first made.was_open in
    on_ok_weaker c.add_number.result (λ last.
    let rows = c.in_ok-add_rows.ensures.ok third last.was_open in
    record {
      was_open = begun.was_open;
      is_open = last.is_open;
      inside = last.inside;
      committed = last.committed ∙ rows.committed ∙ made.committed ∙ begun.committed;
      trees_are = laid_out c.args.rows.now (state g.S.Store c.create_tables.new.transaction.conn.now).now.trees (state g.S.Store c.add_rows.new.transaction.conn.now).now.trees (state g.S.Store c.add_number.new.transaction.conn.now).now.trees made.trees_are rows.trees_are last.trees_are;
    }) (c.add_number.ensures.ok clean)

pub returns-clause-refused : goal.returns-clause-refused
returns-clause-refused g c clean is =
    let u = c.add_number.ensures.survives.clean in
    let third : HasCleanDisk (state g.S.Store c.add_rows.new.transaction.conn.now) = omega arith in
    let t = c.add_rows.ensures.survives.clean in
    let second : HasCleanDisk (state g.S.Store c.create_tables.new.transaction.conn.now) = omega arith in
    let s = c.create_tables.ensures.survives.clean in
    let first : HasCleanDisk (state g.S.Store c.drop_first.new.transaction.conn.now) = omega arith in
    let later : (state g.S.Store c.create_tables.new.transaction.conn.now).faults ≤ (state g.S.Store c.add_number.new.transaction.conn.now).faults = omega
    (arith, c.add_rows.ensures.survives.counts, c.add_number.ensures.survives.counts) in
    let few : (state g.S.Store c.drop_first.new.transaction.conn.now).faults ≤ (state g.S.Store c.add_number.new.transaction.conn.now).faults = omega
    (arith, c.create_tables.ensures.survives.counts, later) in
    let number = refused_behind (row_steps 1 c.args.rows.now) number_steps (state g.S.Store c.create_tables.new.transaction.conn.now)
    (state g.S.Store c.add_rows.new.transaction.conn.now) (state g.S.Store c.add_number.new.transaction.conn.now)
    (λ _. ⊥) c.add_rows.ensures.survives third c.add_number.ensures.survives.counts (λ live. c.in_ok-add_rows.ensures.done third live) (c.add_number.ensures.refused clean is) in
    refused_behind (drop_steps c.args.had_first) (fill_steps c.args.rows.now) (state g.S.Store c.args.transaction.now.conn.now)
    (state g.S.Store c.drop_first.new.transaction.conn.now) (state g.S.Store c.add_number.new.transaction.conn.now) (λ _. ⊥) c.drop_first.ensures.survives first (few)
    (λ live. c.in_ok-drop_first.ensures.done first live)
    (refused_behind table_steps (row_steps 1 c.args.rows.now ++ number_steps) (state g.S.Store c.drop_first.new.transaction.conn.now)
    (state g.S.Store c.create_tables.new.transaction.conn.now) (state g.S.Store c.add_number.new.transaction.conn.now) (λ _. ⊥) c.create_tables.ensures.survives second later
    (λ live. c.in_ok-create_tables.ensures.done second live) number)
