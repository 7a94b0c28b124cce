use Rattle.std.proofs.Common.{◌≡◌, [], append-nil, refl, sym}
use Rattle.std.proofs.lemmas.Fn.{gave_at}
use Rattle.std.proofs.lemmas.List.Elements.{All-nil}
use Rattle.std.specs.Fn.{FnOnceReturnsAt}
use Rattle.mx_dock.specs.Dock.{own, number}
use Rattle.mx_shard.specs.Journal.{Entry}
use Rattle.mx_engine.proofs.ReadingLemmas.{read_turn}
use Rattle.mx_engine.proofs.TurnLemmas.{put-longer, put-own}
use Rattle.mx_engine.proofs.reading.read_at.Goals as goal

pub put-requires-clause-longer : goal.put-requires-clause-longer
put-requires-clause-longer g c =
    let t = c.take_at-docked in
    let journal = t.result.shard.value.journal in
    put-longer (own c.args.berth.now) (own t.new.berth) journal journal [] t.ensures.same (sym (append-nil journal))

pub put-requires-clause-own : goal.put-requires-clause-own
put-requires-clause-own g c =
    let t = c.take_at-docked in
    let journal = t.result.shard.value.journal in
    let caller = number c.args.berth.now in
    put-own (λ (e : Entry). e.caller) caller (number t.new.berth) (own c.args.berth.now) (own t.new.berth) journal journal []
    t.ensures.numbered t.ensures.same (sym (append-nil journal)) (All-nil (λ (e : Entry). e.caller ≡ caller))

pub returns-clause-turn : goal.returns-clause-turn
returns-clause-turn g c =
    let t = c.take_at-docked in
    let is = c.deref.ensures in
    read_turn (FnOnceReturnsAt g.F.FnOnce c.args.read) (own c.args.berth.now) (own t.new.berth) (own c.put.new.berth)
    t.result.shard.value.journal c.rooms.result.now c.read-told.result
    t.ensures.same t.ensures.legal t.ensures.later c.put.ensures.same c.put.ensures.seen c.put.ensures.added
    (rw is at c.rooms.ensures) (gave_at g.F.FnOnce c.read-told.ensures refl)
