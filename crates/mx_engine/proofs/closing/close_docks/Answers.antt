use Rattle.std.proofs.Common.{◌≤◌, length, drop, ap, refl, sym, ◌∙◌, arith}
use Rattle.mx_engine.proofs.RowLemmas.{none-left}
use Rattle.mx_engine.proofs.ClosedDockLemmas.{close-step, closed-legal, closed-placed, closed-whole, next-back}
use Rattle.mx_engine.proofs.closing.close_docks.Goals as goal

pub loop-dock-init : goal.loop-dock-init
loop-dock-init g c = record {
  docks = c.into_iter-dock-iterator.ensures.into_iter_gives.0
      ∙ ap (λ vs. drop (length vs) c.args.docks.items) (sym c.requires.empty);
  berths = ap (λ vs. drop (length vs) c.args.berths.items) (sym c.requires.empty);
  closed = λ n v l. absurd (omega (arith, l, ap length c.requires.empty));
  within = omega (arith, ap length c.requires.empty);
  room = refl;
}

pub close_dock-value-requires : goal.close_dock-value-requires
close_dock-value-requires g c = (
  _,
  next-back c.args.docks.items c.loop-dock.dock-iterator.rest.items c.next.new.self.rest.items c.in-Some.dock
      c.args.berths.items c.loop-dock.berths.items c.remove-berth.result c.requires.all.0 (length c.loop-dock.values.items)
      c.requires.all.1 c.loop-dock.invariant.docks c.loop-dock.invariant.berths c.in-Some.ensures.steps.0
      c.remove-berth.ensures.value,
)

pub loop-dock-preserved : goal.loop-dock-preserved
loop-dock-preserved g c =
    let i = c.loop-dock.invariant in
    let e = c.close_dock-value.ensures in
    let r = close-step g.T.Docked.place_of g.T.Docked.journal_of g.T.Docked.is_legal g.T.Journaled.caller c.args.docks.items
    c.loop-dock.dock-iterator.rest.items c.next.new.self.rest.items c.in-Some.dock c.args.berths.items
    c.loop-dock.berths.items c.remove-berth.new.self.items c.remove-berth.result
    c.loop-dock.values.items c.push_reserved.new.self.items c.close_dock-value.result i.docks i.berths i.closed
    c.in-Some.ensures.steps.0 c.requires.all.1.same c.remove-berth.ensures.value c.remove-berth.ensures.items
    (record { placed = e.place; within = e.within.0; few = e.within.1; legal = e.legal; whole = e.whole })
    c.push_reserved.ensures.items in
    record { docks = r.0; berths = r.1; closed = r.2; within = r.3; room = c.push_reserved.ensures.capacity ∙ i.room }

pub returns-clause-count : goal.returns-clause-count
returns-clause-count g c =
    let rest = c.loop-dock.dock-iterator.rest in
    let all : length c.args.docks.items ≤ length c.loop-dock.values.items =
    none-left c.args.docks.items rest.items (length c.loop-dock.values.items) c.loop-dock.invariant.docks
    (omega (arith, rest.ok.0, c.in-None.ensures.steps.0)) in
    omega (arith, all, c.loop-dock.invariant.within)

pub returns-clause-placed : goal.returns-clause-placed
returns-clause-placed g c =
    closed-placed g.T.Docked.place_of g.T.Docked.journal_of g.T.Docked.is_legal g.T.Journaled.caller c.args.docks.items
    c.args.berths.items c.requires.all.0 c.loop-dock.values.items c.requires.all.1 (returns-clause-count g c)
    c.loop-dock.invariant.closed

pub returns-clause-legal : goal.returns-clause-legal
returns-clause-legal g c =
    closed-legal g.T.Docked.place_of g.T.Docked.journal_of g.T.Docked.is_legal g.T.Journaled.caller c.args.docks.items
    c.args.berths.items c.requires.all.0 c.loop-dock.values.items c.requires.all.1 (returns-clause-count g c)
    c.loop-dock.invariant.closed

pub returns-clause-whole : goal.returns-clause-whole
returns-clause-whole g c = λ known back.
    closed-whole g.T.Docked.place_of g.T.Docked.journal_of g.T.Docked.is_legal g.T.Journaled.caller c.args.docks.items
    c.args.berths.items known c.loop-dock.values.items back (returns-clause-count g c) c.loop-dock.invariant.closed
