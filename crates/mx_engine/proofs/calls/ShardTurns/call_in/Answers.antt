use Rattle.std.proofs.Common.{◌≡◌, ◌<◌, ◌∙◌, ap, sym, subst, length, arith, rules}
use Rattle.mx_dock.specs.Dock.{own}
use Rattle.mx_keeper.specs.Places.{place_number}
use Rattle.mx_shard.specs.LoneRoom.{call_room}
use Rattle.mx_engine.specs.Calling.{call_of, IsHere, IsTurn}
use Rattle.mx_engine.proofs.TurnLemmas.{at_place, told_same, answered_by, refused_by, told_nothing, query_view}
use Rattle.mx_engine.proofs.calls.ShardTurns.call_in.Goals as goal

pub call_at-requires-clause-here : goal.call_at-requires-clause-here
call_at-requires-clause-here g c =
    subst (IsHere c.of-place.result) (sym c.requires.room)
    (at_place c.of-place.result (length c.args.self.now.docks.now) c.as_str.result.now c.args.room.now c.of-place.ensures.number
    c.of-place.ensures.count c.as_str.ensures.text)

pub returns-clause-berths : goal.returns-clause-berths
returns-clause-berths g c =
    let count : length c.args.berths.now.items ≡ length c.args.self.now.docks.now = c.requires.seated.same in
    let within = c.number-number.ensures.within in
    let of_count = c.of-place.ensures.count in
    let l : c.number-number.result < length c.args.berths.now.items = omega (arith, count, within, of_count) in
    record {
      seated = search rules;
      same = told_same c.args.self.now.caller (call_of c.args.call.now) (call_room (call_of c.args.call.now)) c.args.berths.now.items
          c.number-number.result c.index_mut-berth.result.now c.call_at.new.berth c.call_at.result l
          (sym c.index_mut-berth.ensures.value) c.call_at.ensures.turn;
    }

pub returns-clause-ok : goal.returns-clause-ok
returns-clause-ok g c =
    let count : length c.args.berths.now.items ≡ length c.args.self.now.docks.now = c.requires.seated.same in
    let within = c.number-number.ensures.within in
    let of_count = c.of-place.ensures.count in
    let l : c.number-number.result < length c.args.berths.now.items = omega (arith, count, within, of_count) in
    let there : c.number-number.result ≡ place_number (length c.args.berths.now.items) c.args.room.now =
    c.number-number.ensures.number ∙ c.of-place.ensures.number
    ∙ ap (place_number (length c.args.self.now.docks.now)) c.as_str.ensures.text
    ∙ ap (λ k. place_number k c.args.room.now) (sym count) in
    answered_by c.args.self.now.caller (call_of c.args.call.now) c.args.room.now c.args.berths.now.items c.number-number.result
    c.index_mut-berth.result.now c.call_at.new.berth c.call_at.result there l (sym c.index_mut-berth.ensures.value)
    (subst (λ room. IsTurn c.args.self.now.caller (call_of c.args.call.now) room (own c.index_mut-berth.result.now)
    (own c.call_at.new.berth) c.call_at.result) c.requires.room c.call_at.ensures.turn)

pub returns-clause-err : goal.returns-clause-err
returns-clause-err g c =
    let count : length c.args.berths.now.items ≡ length c.args.self.now.docks.now = c.requires.seated.same in
    let within = c.number-number.ensures.within in
    let of_count = c.of-place.ensures.count in
    let l : c.number-number.result < length c.args.berths.now.items = omega (arith, count, within, of_count) in
    refused_by c.args.self.now.caller (call_of c.args.call.now) (call_room (call_of c.args.call.now)) c.args.berths.now.items
    c.number-number.result c.index_mut-berth.result.now c.call_at.new.berth c.call_at.result l
    (sym c.index_mut-berth.ensures.value) c.call_at.ensures.turn

pub returns-clause-asked : goal.returns-clause-asked
returns-clause-asked g c = λ origin now q is.
    let count : length c.args.berths.now.items ≡ length c.args.self.now.docks.now = c.requires.seated.same in
    let within = c.number-number.ensures.within in
    let of_count = c.of-place.ensures.count in
    let l : c.number-number.result < length c.args.berths.now.items = omega (arith, count, within, of_count) in
    let t = c.call_at.ensures.turn in
    told_nothing c.args.berths.now.items c.number-number.result c.index_mut-berth.result.now c.call_at.new.berth t.journal l
    (sym c.index_mut-berth.ensures.value) t.later
    (query_view c.args.self.now.caller (call_of c.args.call.now) origin now q is (own c.index_mut-berth.result.now)
    (own c.call_at.new.berth) c.call_at.result t)
