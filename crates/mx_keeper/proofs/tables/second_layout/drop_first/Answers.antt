use Rattle.std.proofs.Common.{◌⊎◌, Bool, IsTrue, OnOk, if◌then◌else◌, subst, sym}
use Rattle.std.proofs.lemmas.Result.{on_ok_weaker}
use Rattle.sqlite.specs.Held.{state}
use Rattle.mx_keeper.specs.FirstLayout.{kept_schema}
use Rattle.mx_keeper.specs.Connections.{MayRefuse}
use Rattle.mx_keeper.specs.Moving.{AreDone, IsInside, drop_steps}
use Rattle.mx_keeper.specs.ShardTable.{RefusesOne}
use Rattle.mx_keeper.specs.Schemas.{no_schema}
use Rattle.mx_keeper.proofs.MoveLemmas.{dropped_done, drops, stops_drop}
use Rattle.mx_keeper.proofs.tables.second_layout.drop_first.Goals as goal

pub returns-clause-ok : goal.returns-clause-ok
returns-clause-ok g c clean =
    on_ok_weaker c.run.result (λ run _. drops _ _ (λ live. subst (λ (b : Bool). IsInside (if b then kept_schema else no_schema) (state g.S.Store c.args.transaction.now.conn.now)) c.if-not-had_first.false (c.requires live)) run) (c.run.ensures.ok clean)

pub returns-clause-done : goal.returns-clause-done
returns-clause-done g c clean =
    let had = c.if-not-had_first.false in
    subst (λ (b : Bool). OnOk c.run.result (IsTrue (state g.S.Store c.run.new.transaction.conn.now).is_open
    → AreDone (drop_steps b) (state g.S.Store c.args.transaction.now.conn.now) (state g.S.Store c.run.new.transaction.conn.now).now)) (sym had)
    (on_ok_weaker c.run.result (λ run _. dropped_done _ _ (λ live. subst
    (λ (b : Bool). IsInside (if b then kept_schema else no_schema) (state g.S.Store c.args.transaction.now.conn.now)) had (c.requires live)) run) (c.run.ensures.ok clean))

pub returns-clause-refused : goal.returns-clause-refused
returns-clause-refused g c clean is =
    let had = c.if-not-had_first.false in
    subst (λ (b : Bool). MayRefuse (state g.S.Store c.args.transaction.now.conn.now) (state g.S.Store c.run.new.transaction.conn.now)
    ⊎ RefusesOne (drop_steps b) (state g.S.Store c.args.transaction.now.conn.now)) (sym had)
    (stops_drop _ _ (λ live. subst (λ (b : Bool). IsInside (if b then kept_schema else no_schema) (state g.S.Store c.args.transaction.now.conn.now)) had (c.requires live))
    (c.run.ensures.refused clean is))
