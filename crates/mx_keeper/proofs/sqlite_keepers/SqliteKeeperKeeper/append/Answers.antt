use Rattle.std.proofs.Common.{◌⊎◌, arith, inl, inr, ap, subst, Some, Err}
use Rattle.sqlite.specs.Held.{state}
use Rattle.sqlite.specs.State.{HasCleanDisk}
use Rattle.mx_keeper.specs.Keeping.{Rose}
use Rattle.mx_keeper.specs.Refusals.{MayRefuseCall}
use Rattle.mx_keeper.specs.SqliteKeepers.{KeeperView}
use Rattle.mx_keeper.proofs.KeeperLemmas.{refused_row}
use Rattle.mx_keeper.proofs.StayLemmas.{clean_if_open, kept_stays, idle_after}
use Rattle.mx_keeper.proofs.sqlite_keepers.SqliteKeeperKeeper.append.Goals as goal

pub insert-requires : goal.insert-requires
insert-requires g c = c.self.invariant.kept

pub invariant_of-self : goal.invariant_of-self
invariant_of-self g c = record {
  kept = λ live. c.in-Ok.ensures.kept (clean_if_open _ _ (g.met.S.Store.shut_if_dirty c.insert.new.connection.store) live);
  found = tt;
  left = λ clean db may. let before : HasCleanDisk (state g.S.Store c.self.inside.connection) = omega (arith, c.insert.ensures.survives.clean) in
      elim (c.insert.ensures.survives.crash clean db may) [ inl was ↦ c.self.invariant.left before db was | inr put ↦ put.0 ];
  probe = λ clean. c.self.invariant.probe (let before : HasCleanDisk (state g.S.Store c.self.inside.connection) = omega (arith, c.insert.ensures.survives.clean) in before);
}

pub told-fault-requires : goal.told-fault-requires
told-fault-requires g c = record {
  idle = λ live. idle_after _ _ (c.in-Err.ensures.err (clean_if_open _ _ (g.met.S.Store.shut_if_dirty c.insert.new.connection.store) live) live);
  probe = λ clean. c.self.invariant.probe (let before : HasCleanDisk (state g.S.Store c.self.inside.connection) = omega (arith, c.insert.ensures.survives.clean) in before);
}

pub invariant_of-self-in-Err : goal.invariant_of-self-in-Err
invariant_of-self-in-Err g c = record {
  kept = λ live.
      let clean = clean_if_open _ _ (g.met.S.Store.shut_if_dirty c.told-fault.new.connection.store) live in
      let before : HasCleanDisk (state g.S.Store c.insert.new.connection) = omega (arith, c.told-fault.ensures.survives.clean) in
      let later = c.told-fault.ensures.stays clean live in
      let first = c.in-Err.ensures.err before later.was_open in
      kept_stays _ _ _ _ _ (kept_stays _ _ _ _ _ (c.self.invariant.kept first.was_open) first) later;
  found = tt;
  left = λ clean db may.
      let middle : HasCleanDisk (state g.S.Store c.insert.new.connection) = omega (arith, c.told-fault.ensures.survives.clean) in
      let before : HasCleanDisk (state g.S.Store c.self.inside.connection) = omega (arith, c.insert.ensures.survives.clean) in
      elim (c.told-fault.ensures.survives.crash clean db may) [
        | inl later ↦ elim (c.insert.ensures.survives.crash middle db later) [ inl was ↦ c.self.invariant.left before db was | inr put ↦ put.0 ]
        | inr none ↦ absurd none
      ];
  probe = λ clean.
      let middle : HasCleanDisk (state g.S.Store c.insert.new.connection) = omega (arith, c.told-fault.ensures.survives.clean) in
      c.self.invariant.probe (let before : HasCleanDisk (state g.S.Store c.self.inside.connection) = omega (arith, c.insert.ensures.survives.clean) in before);
}

pub returns-in-Err-clause-refused : goal.returns-in-Err-clause-refused
returns-in-Err-clause-refused g c clean is =
    let middle : HasCleanDisk (state g.S.Store c.insert.new.connection) = omega (arith, c.told-fault.ensures.survives.clean) in
    let first = c.insert.ensures.survives in
    subst (λ (v : KeeperView _). MayRefuseCall g.R.TableRow.schema g.R.TableRow.read g.R.TableRow.refuses (Some c.args.row.now) (state g.S.Store v.connection) (state g.S.Store c.told-fault.new.connection)
    ⊎ Rose v.unsure c.told-fault.new.doubts) c.self.view_is
    (refused_row (state g.S.Store c.self.inside.connection) (state g.S.Store c.insert.new.connection) (state g.S.Store c.told-fault.new.connection) (first.closes middle) first.counts c.told-fault.ensures.survives.counts first.limit _
    g.R.TableRow.schema g.R.TableRow.read g.R.TableRow.refuses c.args.row.now _ c.self.invariant.kept c.in-Err.fault c.told-fault.result (let told = is in cc)
    (λ store. c.in-Err.ensures.refused middle (ap Err store)) (λ other. let same = c.told-fault.ensures.same other in (same.0, ap (state g.S.Store) same.1)) (c.told-fault.ensures.store clean))
