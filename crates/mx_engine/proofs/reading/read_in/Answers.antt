use Rattle.std.proofs.Common.{◌≡◌, ◌<◌, length, sym, arith}
use Rattle.std.specs.Fn.{FnOnceReturnsAt}
use Rattle.mx_engine.specs.Berths.{caller_of, views_of}
use Rattle.mx_engine.proofs.ReadingLemmas.{its_berth, still_seated, read_here}
use Rattle.mx_engine.proofs.TurnLemmas.{nothing_refl, told_nothing}
use Rattle.mx_engine.proofs.reading.read_in.Goals as goal

pub read_at-requires-clause-berth : goal.read_at-requires-clause-berth
read_at-requires-clause-berth g c =
    its_berth c.args.docks.now (caller_of c.args.berths.now.items) c.args.berths.now.items c.args.number c.new-place.result
    c.index-docks-number.result c.deref.result.now c.index_mut-berth.result.now
    c.requires.seated (omega (arith, c.if-number-docks.false)) c.new-place.ensures.number c.new-place.ensures.count
    (sym c.index-docks-number.is) c.deref.ensures (sym c.index_mut-berth.ensures.value)

pub returns-then-number-docks-clause-nothing : goal.returns-then-number-docks-clause-nothing
returns-then-number-docks-clause-nothing g c = nothing_refl (views_of c.args.berths.now.items)

pub returns-clause-seated : goal.returns-clause-seated
returns-clause-seated g c =
    still_seated c.args.docks.now (caller_of c.args.berths.now.items) c.args.berths.now.items c.args.number
    c.new-place.result c.index-docks-number.result c.deref.result.now c.index_mut-berth.result.now
    c.requires.seated (omega (arith, c.if-number-docks.false)) c.new-place.ensures.number c.new-place.ensures.count
    (sym c.index-docks-number.is) c.deref.ensures (sym c.index_mut-berth.ensures.value)
    c.read_at.new.berth c.read_at.ensures.berth

pub returns-clause-nothing : goal.returns-clause-nothing
returns-clause-nothing g c =
    let same : length c.args.berths.now.items ≡ length c.args.docks.now = c.requires.seated.same in
    let l : c.args.number < length c.args.berths.now.items = omega (arith, same, c.if-number-docks.false) in
    let t = c.read_at.ensures.turn in
    told_nothing c.args.berths.now.items c.args.number c.index_mut-berth.result.now c.read_at.new.berth t.journal l
    (sym c.index_mut-berth.ensures.value) t.later t.seen

pub returns-clause-read : goal.returns-clause-read
returns-clause-read g c =
    let same : length c.args.berths.now.items ≡ length c.args.docks.now = c.requires.seated.same in
    let l : c.args.number < length c.args.berths.now.items = omega (arith, same, c.if-number-docks.false) in
    read_here (FnOnceReturnsAt g.F.FnOnce c.args.read) c.args.berths.now.items c.args.number c.index_mut-berth.result.now
    c.read_at.new.berth c.read_at.result l c.read_at.ensures.turn
