use Rattle.std.proofs.Common.{◌≤◌, length, arith}
use Rattle.mx_dock.specs.Dock.{own}
use Rattle.mx_engine.proofs.RowLemmas.{none-left, replaced-all}
use Rattle.mx_engine.proofs.ClosingLemmas.{IsGiven, gathered-more, given-one}
use Rattle.mx_engine.proofs.closing.give_back.Goals as goal

pub loop-number-preserved : goal.loop-number-preserved
loop-number-preserved g c =
    let r = given-one c.args.docks.now c.args.berths.items c.args.first.now.items c.loop-number.first.items
    c.in-Some.number c.loop-number.number-iterator.count c.next.new.self.count c.in-Some.berth c.index_mut.result.now
    c.give_back.new.first c.index-docks-number.result c.deref.result.now
    c.loop-number.number-iterator.iter.rest.items c.next.new.self.iter.rest.items
    c.loop-number.invariant.left c.loop-number.invariant.replaced c.in-Some.ensures.steps.0.0 c.in-Some.ensures.steps.1
    c.in-Some.ensures.steps.2
    c.requires.first.1.same c.requires.other.1.same
    c.index-docks-number.is c.deref.ensures c.index_mut.ensures.value c.give_back.ensures.first c.give_back.ensures.idle
    c.give_back.ensures.own c.give_back.ensures.given in
    record { left = r.0; replaced = r.1 }

pub returns-clause-first : goal.returns-clause-first
returns-clause-first g c = λ known past.
    let rest = c.loop-number.number-iterator.iter.rest in
    gathered-more c.args.docks.now c.args.first.now.items c.loop-number.first.items c.args.berths.items c.requires.other.0
    c.loop-number.number-iterator.count known
    c.requires.other.1 c.loop-number.invariant.replaced
    (none-left c.args.berths.items rest.items c.loop-number.number-iterator.count c.loop-number.invariant.left
    (omega (arith, rest.ok.0, c.in-None.ensures.steps.0.0))) past

pub returns-clause-views : goal.returns-clause-views
returns-clause-views g c =
    let rest = c.loop-number.number-iterator.iter.rest in
    let all : length c.args.berths.items ≤ c.loop-number.number-iterator.count =
    none-left c.args.berths.items rest.items c.loop-number.number-iterator.count c.loop-number.invariant.left
    (omega (arith, rest.ok.0, c.in-None.ensures.steps.0.0)) in
    replaced-all own (IsGiven c.args.docks.now c.args.berths.items) c.loop-number.number-iterator.count
    c.args.first.now.items c.loop-number.first.items
    c.loop-number.invariant.replaced (omega (arith, all, c.requires.first.1.same, c.requires.other.1.same))
    (λ n x y is. is.same)
