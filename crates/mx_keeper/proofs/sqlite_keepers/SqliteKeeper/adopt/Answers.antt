use Rattle.std.proofs.Common.{sym, ap, subst, ◌∙◌, Err}
use Rattle.sqlite.specs.Held.{state}
use Rattle.mx_keeper.specs.Connections.{HasRows}
use Rattle.mx_keeper.proofs.StayLemmas.{clean_if_open}
use Rattle.mx_keeper.proofs.sqlite_keepers.SqliteKeeper.adopt.Goals as goal

pub invariant_of-result : goal.invariant_of-result
invariant_of-result g c = record {
  kept = λ live.
      let clean = clean_if_open _ _ (g.met.S.Store.shut_if_dirty c.found_all.new.connection.store) live in
      subst (λ n. HasRows g.R.TableRow.schema g.R.TableRow.read n (state g.S.Store c.found_all.new.connection)) (sym (c.len.ensures ∙ c.in-Ok.rows.ok.0)) (c.in-Ok.ensures.kept clean);
  found = λ clean. (c.in-Ok.ensures.open clean, c.in-Ok.ensures.reads clean);
  left = c.in-Ok.ensures.left;
  probe = c.in-Ok.ensures.probe;
}

pub returns-in-Err-clause-table : goal.returns-in-Err-clause-table
returns-in-Err-clause-table g c clean is = c.in-Err.ensures.table clean (ap Err is)

pub returns-in-Err-clause-store : goal.returns-in-Err-clause-store
returns-in-Err-clause-store g c clean is = c.in-Err.ensures.store clean (ap Err is)
