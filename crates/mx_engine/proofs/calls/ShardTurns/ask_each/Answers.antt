use Rattle.std.proofs.Common.{◌≡◌, ◌<◌, ◌+◌, ◌∙◌, ap, length, set, sym, subst, arith, Some, Ok}
use Rattle.std.proofs.lemmas.List.{length-map, length-set}
use Rattle.crossbeam_utils.specs.Padded.{padded_value}
use Rattle.mx_dock.specs.Dock.{own}
use Rattle.mx_shard.specs.LoneRoom.{to_ask}
use Rattle.mx_engine.specs.Berths.{views_of}
use Rattle.mx_engine.specs.Calling.{IsAskTurn}
use Rattle.mx_engine.proofs.TurnLemmas.{told_nothing, nothing_refl}
use Rattle.mx_engine.proofs.AskingLemmas.{after_nothing, nothing_trans, shown_found, shows_here, AreAsked, asked_none, asked_more, found_some}
use Rattle.mx_engine.proofs.BerthLemmas.{after_refl}
use Rattle.mx_engine.proofs.calls.ShardTurns.ask_each.Goals as goal

pub loop-number-init : goal.loop-number-init
loop-number-init g c = record {
  berths = after_refl c.args.self.now.docks.now c.args.self.now.caller c.args.berths.now.items c.requires.seated;
  nothing = nothing_refl (views_of c.args.berths.now.items);
  asked = asked_none (to_ask c.args.question.now.origin.now c.args.question.now.moment c.args.question.now.query.now)
      (views_of c.args.berths.now.items);
}

pub returns-in_err-answer-clause-berths : goal.returns-in_err-answer-clause-berths
returns-in_err-answer-clause-berths g c =
    let berths = c.loop-number.berths.items in
    let n = c.loop-number.number in
    let k : n < length berths = subst (λ j. n < j) (sym c.loop-number.invariant.berths.seated.same) c.loop-number-test.true in
    let t = c.ask_one-asked.ensures.turn in
    after_nothing c.args.self.now.docks.now c.args.self.now.caller c.args.berths.now.items berths n c.new-place.result
    c.index-self-number.result c.deref.result.now c.ask_one-asked.new.berth c.loop-number.invariant.berths
    c.loop-number-test.true c.new-place.ensures.number c.new-place.ensures.count (sym c.index-self-number.is)
    (c.deref.ensures ∙ ap padded_value (sym c.index-self-number.is)) c.ask_one-asked.ensures.berth
    (told_nothing berths n c.index_mut-berth.result.now c.ask_one-asked.new.berth t.journal k
    (sym c.index_mut-berth.ensures.value) t.later t.seen)

pub returns-in_err-answer-clause-nothing : goal.returns-in_err-answer-clause-nothing
returns-in_err-answer-clause-nothing g c =
    let berths = c.loop-number.berths.items in
    let n = c.loop-number.number in
    let k : n < length berths = subst (λ j. n < j) (sym c.loop-number.invariant.berths.seated.same) c.loop-number-test.true in
    let t = c.ask_one-asked.ensures.turn in
    nothing_trans (views_of c.args.berths.now.items) (views_of berths) _ c.loop-number.invariant.nothing
    (told_nothing berths n c.index_mut-berth.result.now c.ask_one-asked.new.berth t.journal k
    (sym c.index_mut-berth.ensures.value) t.later t.seen)

pub loop-number-preserved : goal.loop-number-preserved
loop-number-preserved g c =
    let berths = c.loop-number.berths.items in
    let n = c.loop-number.number in
    let call = to_ask c.args.question.now.origin.now c.args.question.now.moment c.args.question.now.query.now in
    let k : n < length berths = subst (λ j. n < j) (sym c.loop-number.invariant.berths.seated.same) c.loop-number-test.true in
    let t = c.ask_one-asked.ensures.turn in
    let change = told_nothing berths n c.index_mut-berth.result.now c.ask_one-asked.new.berth t.journal k
    (sym c.index_mut-berth.ensures.value) t.later t.seen in
    record {
      berths = after_nothing c.args.self.now.docks.now c.args.self.now.caller c.args.berths.now.items berths n
          c.new-place.result c.index-self-number.result c.deref.result.now c.ask_one-asked.new.berth
          c.loop-number.invariant.berths c.loop-number-test.true c.new-place.ensures.number c.new-place.ensures.count
          (sym c.index-self-number.is) (c.deref.ensures ∙ ap padded_value (sym c.index-self-number.is)) c.ask_one-asked.ensures.berth change;
      nothing = nothing_trans (views_of c.args.berths.now.items) (views_of berths) _ c.loop-number.invariant.nothing change;
      asked = subst (AreAsked call (views_of (set berths n c.ask_one-asked.new.berth)) (n + 1))
          (sym c.is_refused_by_now-is_refused.ensures)
          (asked_more call berths n c.index_mut-berth.result.now c.ask_one-asked.new.berth c.loop-number.is_refused
          c.ask_one-asked.result k c.loop-number.invariant.asked t
          (sym c.found.ensures ∙ c.in_ok-answer.was ∙ ap Ok c.in_default.is));
    }

pub returns-clause-shown : goal.returns-clause-shown
returns-clause-shown g c = λ n l.
    let long : length (views_of c.loop-number.berths.items) ≡ length c.args.self.now.docks.now =
    length-map c.loop-number.berths.items own ∙ c.loop-number.invariant.berths.seated.same in
    let past = c.loop-number-test.false in
    c.loop-number.invariant.asked c.if-is_refused.false n (omega (arith, l, long, past))

pub returns-in-Some-clause-berths : goal.returns-in-Some-clause-berths
returns-in-Some-clause-berths g c =
    let berths = c.loop-number.berths.items in
    let n = c.loop-number.number in
    let k : n < length berths = subst (λ j. n < j) (sym c.loop-number.invariant.berths.seated.same) c.loop-number-test.true in
    let t = c.ask_one-asked.ensures.turn in
    after_nothing c.args.self.now.docks.now c.args.self.now.caller c.args.berths.now.items berths n c.new-place.result
    c.index-self-number.result c.deref.result.now c.ask_one-asked.new.berth c.loop-number.invariant.berths
    c.loop-number-test.true c.new-place.ensures.number c.new-place.ensures.count (sym c.index-self-number.is)
    (c.deref.ensures ∙ ap padded_value (sym c.index-self-number.is)) c.ask_one-asked.ensures.berth
    (told_nothing berths n c.index_mut-berth.result.now c.ask_one-asked.new.berth t.journal k
    (sym c.index_mut-berth.ensures.value) t.later t.seen)

pub returns-in-Some-clause-nothing : goal.returns-in-Some-clause-nothing
returns-in-Some-clause-nothing g c =
    let berths = c.loop-number.berths.items in
    let n = c.loop-number.number in
    let k : n < length berths = subst (λ j. n < j) (sym c.loop-number.invariant.berths.seated.same) c.loop-number-test.true in
    let t = c.ask_one-asked.ensures.turn in
    nothing_trans (views_of c.args.berths.now.items) (views_of berths) _ c.loop-number.invariant.nothing
    (told_nothing berths n c.index_mut-berth.result.now c.ask_one-asked.new.berth t.journal k
    (sym c.index_mut-berth.ensures.value) t.later t.seen)

pub returns-in-Some-clause-shown : goal.returns-in-Some-clause-shown
returns-in-Some-clause-shown g c =
    let berths = c.loop-number.berths.items in
    let n = c.loop-number.number in
    let call = to_ask c.args.question.now.origin.now c.args.question.now.moment c.args.question.now.query.now in
    let k : n < length berths = subst (λ j. n < j) (sym c.loop-number.invariant.berths.seated.same) c.loop-number-test.true in
    let told = c.in-Some.answer in
    let t : IsAskTurn call (own c.index_mut-berth.result.now) (own c.ask_one-asked.new.berth) (Ok (Some told)) =
    subst (λ r. IsAskTurn call (own c.index_mut-berth.result.now) (own c.ask_one-asked.new.berth) r)
    (found_some c.ask_one-asked.result told (sym c.found.ensures ∙ c.in_ok-answer.was ∙ ap Ok c.in-Some.is))
    c.ask_one-asked.ensures.turn in
    shown_found call (views_of (set berths n c.ask_one-asked.new.berth)) n told t.told
    (subst (λ j. n < j) (sym
    (length-map (set berths n c.ask_one-asked.new.berth) own ∙ length-set berths n c.ask_one-asked.new.berth)) k)
    (shows_here call berths n c.index_mut-berth.result.now c.ask_one-asked.new.berth (Some told) k t)
