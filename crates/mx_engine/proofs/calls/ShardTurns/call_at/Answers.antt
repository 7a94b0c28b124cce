use Rattle.std.proofs.Common.{◌∙◌, sym, subst}
use Rattle.mx_dock.specs.Dock.{own, number}
use Rattle.mx_keeper.specs.Places.{PlaceView}
use Rattle.mx_shard.specs.LoneRoom.{call_room}
use Rattle.mx_shard.specs.Journal.{Entry}
use Rattle.mx_engine.specs.Calling.{call_of, IsHere}
use Rattle.mx_engine.proofs.TurnLemmas.{longer, put-longer, put-own, turn}
use Rattle.mx_engine.proofs.calls.ShardTurns.call_at.Goals as goal

pub call_shard-result-requires : goal.call_shard-result-requires
call_shard-result-requires g c =
    let t = c.take_at-docked in
    let is = c.deref_mut.ensures.value in
    rw is (subst (λ (p : PlaceView). IsHere p (call_room (call_of c.args.call.now))) (sym t.ensures.found) c.requires.here)

pub put-requires-clause-longer : goal.put-requires-clause-longer
put-requires-clause-longer g c =
    let t = c.take_at-docked in
    let is = c.deref_mut.ensures.value in
    let r = c.call_shard-result in
    let l = longer c.args.self.now.caller (call_room (call_of c.args.call.now)) (call_of c.args.call.now) t.result.shard.value.journal
    r.new.shard.journal r.result (rw is at r.ensures.journal) (rw is at r.ensures.err) in
    put-longer (own c.args.berth.now) (own t.new.berth) t.result.shard.value.journal r.new.shard.journal l.rest
    t.ensures.same l.is

pub put-requires-clause-own : goal.put-requires-clause-own
put-requires-clause-own g c =
    let t = c.take_at-docked in
    let is = c.deref_mut.ensures.value in
    let r = c.call_shard-result in
    let l = longer c.args.self.now.caller (call_room (call_of c.args.call.now)) (call_of c.args.call.now) t.result.shard.value.journal
    r.new.shard.journal r.result (rw is at r.ensures.journal) (rw is at r.ensures.err) in
    put-own (λ (e : Entry). e.caller) c.args.self.now.caller (number t.new.berth) (own c.args.berth.now) (own t.new.berth)
    t.result.shard.value.journal r.new.shard.journal l.rest (t.ensures.numbered ∙ c.requires.berth.numbered)
    t.ensures.same l.is l.mine

pub returns-clause-turn : goal.returns-clause-turn
returns-clause-turn g c =
    let t = c.take_at-docked in
    let is = c.deref_mut.ensures.value in
    let r = c.call_shard-result in
    turn c.args.self.now.caller (call_of c.args.call.now) (call_room (call_of c.args.call.now)) (own c.args.berth.now)
    (own t.new.berth) (own c.put.new.berth) t.result.shard.value.journal r.new.shard.journal r.result
    t.ensures.same t.ensures.legal t.ensures.later c.put.ensures.same c.put.ensures.seen c.put.ensures.added
    (rw is at r.ensures.reply) (rw is at r.ensures.journal) (rw is at r.ensures.err)
