use Rattle.std.proofs.Common.{length, arith}
use Rattle.mx_engine.proofs.RowLemmas.{none-left}
use Rattle.mx_engine.proofs.OpenedDockLemmas.{open-first, open-step}
use Rattle.mx_engine.proofs.opening.open_docks.Goals as goal

pub loop-value-preserved : goal.loop-value-preserved
loop-value-preserved g c =
    let i = c.loop-value.invariant in
    let r = open-step g.T.Docked.place_of g.T.Docked.journal_of c.args.values.items c.loop-value.value-iterator.rest.items
    c.next.new.self.rest.items c.in-Some.value
    c.loop-value.docks.items c.push.new.self.items c.in_ok-dock.dock c.loop-value.berths.items
    c.push-in-loop-value.new.self.items c.in_ok-dock.berth
    i.left c.in-Some.ensures.steps.0 i.opened c.in_ok-dock.ensures c.in_ok-push.ensures.items c.in_ok-push-2.ensures.items in
    record { left = r.0; opened = r.1; within = r.2 }

pub returns : goal.returns
returns g c =
    let i = c.loop-value.invariant in
    let rest = c.loop-value.value-iterator.rest in
    open-first g.T.Docked.place_of g.T.Docked.journal_of c.args.values.items c.loop-value.docks.items
    c.loop-value.berths.items c.requires i.opened
    (omega (
      arith,
      i.within,
      none-left c.args.values.items rest.items (length c.loop-value.docks.items) i.left
          (omega (arith, rest.ok.0, c.in-None.ensures.steps.0)),
    ))
