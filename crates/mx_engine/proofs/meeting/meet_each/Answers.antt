use Rattle.std.proofs.Common.{◌≡◌, ◌<◌, ◌≤◌, ◌∙◌, ap, length, sym, subst, refl, arith, ⊎_elim}
use Rattle.std.proofs.lemmas.Bool.{cases_lt}
use Rattle.std.proofs.lemmas.List.{length-map}
use Rattle.mx_dock.specs.Dock.{own}
use Rattle.mx_engine.specs.Berths.{caller_of, views_of}
use Rattle.mx_engine.proofs.TurnLemmas.{nothing_refl}
use Rattle.mx_engine.proofs.AskingLemmas.{nothing_trans}
use Rattle.mx_engine.proofs.MeetingLemmas.{met_seated, met_nothing, met_stays, met_told, told_beyond}
use Rattle.mx_engine.proofs.meeting.meet_each.Goals as goal

pub loop-number-init : goal.loop-number-init
loop-number-init g c = record {
  first = c.requires.first;
  second = c.requires.second;
  nothing = nothing_refl (views_of c.args.first.now.items);
  told = λ n below. absurd (let e : ⊥ = omega (arith, below) in e);
  stays = refl;
}

pub loop-number-preserved : goal.loop-number-preserved
loop-number-preserved g c =
    let n = c.loop-number.number in
    let l : n < length c.args.docks.now = c.loop-number-test.true in
    let first = c.loop-number.first.items in
    let second = c.loop-number.second.items in
    let i = c.loop-number.invariant in
    let e = c.meet.ensures in
    let one = c.index_mut.result.now in
    let two = c.index_mut-in-loop-number.result.now in
    let k : n < length first = subst (λ j. n < j) (sym i.first.same) l in
    let k' : n < length second = subst (λ j. n < j) (sym i.second.same) l in
    record {
      first = met_seated c.args.docks.now (caller_of c.args.first.now.items) first n c.index-docks-number.result
          c.deref.result.now one c.meet.new.first i.first l (sym c.index-docks-number.is) c.deref.ensures
          (sym c.index_mut.ensures.value) e.first e.first_idle e.first_same;
      second = met_seated c.args.docks.now (caller_of c.args.second.now.items) second n c.index-docks-number.result
          c.deref.result.now two c.meet.new.second i.second l (sym c.index-docks-number.is) c.deref.ensures
          (sym c.index_mut-in-loop-number.ensures.value) e.second e.second_idle e.second_same;
      nothing = nothing_trans (views_of c.args.first.now.items) (views_of first) _ i.nothing
          (met_nothing first n one c.meet.new.first k (sym c.index_mut.ensures.value) e.first_same e.first_seen
          e.first_added);
      told = met_told first second (views_of c.args.second.now.items) n c.meet.new.first two k k' i.stays
          (sym c.index_mut-in-loop-number.ensures.value) e.first_told i.told;
      stays = met_stays second n two c.meet.new.second (sym c.index_mut-in-loop-number.ensures.value) e.second_same
          e.second_seen e.second_added ∙ i.stays;
    }

pub returns-clause-told : goal.returns-clause-told
returns-clause-told g c = λ n. ⊎_elim
    (λ (l : n < c.loop-number.number). c.loop-number.invariant.told n l)
    (λ (l : c.loop-number.number ≤ n).
    let second = c.args.second.now.items in
    let long : length (views_of second) ≡ length c.args.docks.now = ap length (sym c.loop-number.invariant.stays)
    ∙ length-map c.loop-number.second.items own ∙ c.loop-number.invariant.second.same in
    told_beyond (views_of second) (views_of c.loop-number.first.items) n (omega (arith, l, long, c.loop-number-test.false)))
    (cases_lt n c.loop-number.number)
