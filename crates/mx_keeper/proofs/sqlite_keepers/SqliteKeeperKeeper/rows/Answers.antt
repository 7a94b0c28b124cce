use Rattle.std.proofs.Common.{◌⊎◌, arith, inl, inr, ap, subst, Err}
use Rattle.sqlite.specs.Held.{state}
use Rattle.sqlite.specs.State.{HasCleanDisk}
use Rattle.mx_keeper.specs.Connections.{MayRefuse}
use Rattle.mx_keeper.specs.Keeping.{Rose}
use Rattle.mx_keeper.specs.SqliteKeepers.{KeeperView}
use Rattle.mx_keeper.proofs.KeeperLemmas.{refused_rows}
use Rattle.mx_keeper.proofs.StayLemmas.{clean_if_open, kept_stays, idle_after}
use Rattle.mx_keeper.proofs.sqlite_keepers.SqliteKeeperKeeper.rows.Goals as goal

pub invariant_of-self-in-Ok : goal.invariant_of-self-in-Ok
invariant_of-self-in-Ok g c = record {
  kept = λ live. let s = c.in-Ok.ensures.stays (clean_if_open _ _ (g.met.S.Store.shut_if_dirty c.all.new.connection.store) live) live in kept_stays _ _ _ _ _ (c.self.invariant.kept s.was_open) s;
  found = rw c.take.ensures.after tt;
  left = λ clean db may. let before : HasCleanDisk (state g.S.Store c.self.inside.connection) = omega (arith, c.all.ensures.survives.clean) in
      elim (c.all.ensures.survives.crash clean db may) [ inl was ↦ c.self.invariant.left before db was | inr none ↦ absurd none ];
  probe = λ clean. c.self.invariant.probe (let before : HasCleanDisk (state g.S.Store c.self.inside.connection) = omega (arith, c.all.ensures.survives.clean) in before);
}

pub told-fault-requires : goal.told-fault-requires
told-fault-requires g c = record {
  idle = λ live. idle_after _ _ (c.in-Err.ensures.stays (clean_if_open _ _ (g.met.S.Store.shut_if_dirty c.all.new.connection.store) live) live);
  probe = λ clean. c.self.invariant.probe (let before : HasCleanDisk (state g.S.Store c.self.inside.connection) = omega (arith, c.all.ensures.survives.clean) in before);
}

pub invariant_of-self-in-Err : goal.invariant_of-self-in-Err
invariant_of-self-in-Err g c = record {
  kept = λ live.
      let clean = clean_if_open _ _ (g.met.S.Store.shut_if_dirty c.told-fault.new.connection.store) live in
      let before : HasCleanDisk (state g.S.Store c.all.new.connection) = omega (arith, c.told-fault.ensures.survives.clean) in
      let later = c.told-fault.ensures.stays clean live in
      let first = c.in-Err.ensures.stays before later.was_open in
      kept_stays _ _ _ _ _ (kept_stays _ _ _ _ _ (c.self.invariant.kept first.was_open) first) later;
  found = rw c.take.ensures.after tt;
  left = λ clean db may.
      let middle : HasCleanDisk (state g.S.Store c.all.new.connection) = omega (arith, c.told-fault.ensures.survives.clean) in
      let before : HasCleanDisk (state g.S.Store c.self.inside.connection) = omega (arith, c.all.ensures.survives.clean) in
      elim (c.told-fault.ensures.survives.crash clean db may) [
        | inl later ↦ elim (c.all.ensures.survives.crash middle db later) [ inl was ↦ c.self.invariant.left before db was | inr none ↦ absurd none ]
        | inr none ↦ absurd none
      ];
  probe = λ clean.
      let middle : HasCleanDisk (state g.S.Store c.all.new.connection) = omega (arith, c.told-fault.ensures.survives.clean) in
      c.self.invariant.probe (let before : HasCleanDisk (state g.S.Store c.self.inside.connection) = omega (arith, c.all.ensures.survives.clean) in before);
}

pub returns-in-Err-clause-refused : goal.returns-in-Err-clause-refused
returns-in-Err-clause-refused g c clean is =
    let middle : HasCleanDisk (state g.S.Store c.all.new.connection) = omega (arith, c.told-fault.ensures.survives.clean) in
    let first = c.all.ensures.survives in
    subst (λ (v : KeeperView _). MayRefuse (state g.S.Store v.connection) (state g.S.Store c.told-fault.new.connection) ⊎ Rose v.unsure c.told-fault.new.doubts) c.self.view_is
    (refused_rows (state g.S.Store c.self.inside.connection) (state g.S.Store c.all.new.connection) (state g.S.Store c.told-fault.new.connection) (first.closes middle) first.counts c.told-fault.ensures.survives.counts first.limit _
    c.in-Err.fault c.told-fault.result (let told = is in cc) (λ store. c.in-Err.ensures.store middle (ap Err store))
    (λ other. let same = c.told-fault.ensures.same other in (same.0, ap (state g.S.Store) same.1)) (c.told-fault.ensures.store clean))
