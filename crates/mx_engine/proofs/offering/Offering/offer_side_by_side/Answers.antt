use Rattle.std.proofs.Common.{◌≤◌, inl, inr, length, map, sym, ◌∙◌, ap, subst, arith, vec_capacity}
use Rattle.std.proofs.lemmas.List.{length-map}
use Rattle.mx_engine.specs.Berths.{AreBerthsAt, views_of}
use Rattle.mx_engine.specs.Views.{AreSameViews}
use Rattle.mx_engine.specs.Transactions.{AreOffered, AreStopped}
use Rattle.mx_engine.specs.Jobs.{merged, lowest_of, faults_of, told_of_jobs}
use Rattle.mx_engine.proofs.JobLemmas.{back_seated, back_same, all_offered, all_stopped, told_result}
use Rattle.mx_engine.proofs.StoppedLemmas.{none_begun, all_begun}
use Rattle.mx_engine.proofs.offering.Offering.offer_side_by_side.Goals as goal

pub returns-in_err-back-clause-err : goal.returns-in_err-back-clause-err
returns-in_err-back-clause-err g c =
    none_begun c.args.self.now.turns.caller c.args.self.now.origin.now c.args.events.now c.from_residual.result
    (views_of c.args.berths.now.items) c.from_residual.ensures.1

pub returns-in_err-jobs-clause-err : goal.returns-in_err-jobs-clause-err
returns-in_err-jobs-clause-err g c =
    none_begun c.args.self.now.turns.caller c.args.self.now.origin.now c.args.events.now c.from_residual-in_err-jobs.result
    (views_of c.args.berths.now.items) c.from_residual-in_err-jobs.ensures.1

pub returns-in_err-moves-clause-err : goal.returns-in_err-moves-clause-err
returns-in_err-moves-clause-err g c =
    none_begun c.args.self.now.turns.caller c.args.self.now.origin.now c.args.events.now c.from_residual-in_err-moves.result
    (views_of c.args.berths.now.items) c.from_residual-in_err-moves.ensures.1

pub returns-in_err-told-clause-err : goal.returns-in_err-told-clause-err
returns-in_err-told-clause-err g c =
    none_begun c.args.self.now.turns.caller c.args.self.now.origin.now c.args.events.now c.from_residual-in_err-told.result
    (views_of c.args.berths.now.items) c.from_residual-in_err-told.ensures.1

pub run_all-requires-clause-ready : goal.run_all-requires-clause-ready
run_all-requires-clause-ready g c κs within =
    (c.args.berths.now.items, (c.take_out.ensures.ready c.args.self.now.turns.docks.now c.args.self.now.turns.caller c.args.events.now c.requires c.busy_docks-busy.ensures))

pub run_all-requires-clause-room : goal.run_all-requires-clause-room
run_all-requires-clause-room g c κs within =
    let long = (c.take_out.ensures.ready c.args.self.now.turns.docks.now c.args.self.now.turns.caller c.args.events.now c.requires c.busy_docks-busy.ensures).long in
    let same = c.requires.same in
    let room = c.in_ok-moves.ensures.capacity in
    omega (arith, long, same, room, c.len-count.ensures, c.args.berths.now.ok.0)

pub put_back-requires-clause-room : goal.put_back-requires-clause-room
put_back-requires-clause-room g c =
    let over = c.run_all.ensures c.args.berths.now.items (c.take_out.ensures.ready c.args.self.now.turns.docks.now c.args.self.now.turns.caller c.args.events.now c.requires c.busy_docks-busy.ensures) in
    let same = c.requires.same in
    subst (λ berths. length c.run_all.new.jobs.items ≤ vec_capacity berths) (sym c.take_out.ensures.back)
    (omega (arith, over.long, same, c.in_ok-back.ensures.capacity, c.len-count.ensures, c.args.berths.now.ok.0))

pub put_back-requires-clause-told_room : goal.put_back-requires-clause-told_room
put_back-requires-clause-told_room g c =
    let over = c.run_all.ensures c.args.berths.now.items (c.take_out.ensures.ready c.args.self.now.turns.docks.now c.args.self.now.turns.caller c.args.events.now c.requires c.busy_docks-busy.ensures) in
    let same = c.requires.same in
    omega (arith, over.long, same, c.in_ok-told.ensures.capacity, c.len-count.ensures, c.args.berths.now.ok.0)

pub told_in_order-requires-clause-some : goal.told_in_order-requires-clause-some
told_in_order-requires-clause-some g c =
    let over = c.run_all.ensures c.args.berths.now.items (c.take_out.ensures.ready c.args.self.now.turns.docks.now c.args.self.now.turns.caller c.args.events.now c.requires c.busy_docks-busy.ensures) in
    let some = c.requires.some in
    omega (
      arith,
      some,
      over.long,
      length-map c.put_back.new.told.items (λ q. q.items),
      ap length c.put_back.ensures.told,
      length-map c.run_all.new.jobs.items (λ job. job.told.items),
    )

pub told_in_order-requires-clause-few : goal.told_in_order-requires-clause-few
told_in_order-requires-clause-few g c =
    let over = c.run_all.ensures c.args.berths.now.items (c.take_out.ensures.ready c.args.self.now.turns.docks.now c.args.self.now.turns.caller c.args.events.now c.requires c.busy_docks-busy.ensures) in
    let few = c.requires.few in
    omega (
      arith,
      few,
      over.long,
      length-map c.put_back.new.told.items (λ q. q.items),
      ap length c.put_back.ensures.told,
      length-map c.run_all.new.jobs.items (λ job. job.told.items),
    )

pub returns-in-Some-clause-berths : goal.returns-in-Some-clause-berths
returns-in-Some-clause-berths g c = record {
  seated = subst (AreBerthsAt c.args.self.now.turns.docks.now c.args.self.now.turns.caller) (sym c.put_back.ensures.berths)
      (back_seated c.args.self.now.turns.docks.now c.args.self.now.turns.caller c.args.self.now.origin.now c.args.events.now
      c.args.berths.now.items c.run_all.new.jobs.items c.requires
      (c.run_all.ensures c.args.berths.now.items (c.take_out.ensures.ready c.args.self.now.turns.docks.now c.args.self.now.turns.caller c.args.events.now c.requires c.busy_docks-busy.ensures)));
  same = subst (λ bs. AreSameViews (views_of c.args.berths.now.items) (views_of bs)) (sym c.put_back.ensures.berths)
      (back_same c.args.self.now.turns.docks.now c.args.self.now.turns.caller c.args.self.now.origin.now c.args.events.now
      c.args.berths.now.items c.run_all.new.jobs.items c.requires
      (c.run_all.ensures c.args.berths.now.items (c.take_out.ensures.ready c.args.self.now.turns.docks.now c.args.self.now.turns.caller c.args.events.now c.requires c.busy_docks-busy.ensures)));
}

pub returns-in-Some-clause-err : goal.returns-in-Some-clause-err
returns-in-Some-clause-err g c =
    let fault = sym (c.lowest_fault-fault.ensures ∙ ap (λ ls. lowest_of (faults_of ls)) c.deref.ensures.value)
    ∙ c.in-Some.is in
    inr (inl (subst (λ bs. AreStopped c.args.self.now.turns.caller c.args.self.now.origin.now c.args.events.now
    (views_of c.args.berths.now.items) (views_of bs) c.in-Some.fault.error) (sym c.put_back.ensures.berths)
    (all_stopped c.args.self.now.turns.docks.now c.args.self.now.turns.caller c.args.self.now.origin.now c.args.events.now
    c.args.berths.now.items c.run_all.new.jobs.items c.requires
    (c.run_all.ensures c.args.berths.now.items (c.take_out.ensures.ready c.args.self.now.turns.docks.now c.args.self.now.turns.caller c.args.events.now c.requires c.busy_docks-busy.ensures))
    c.in-Some.fault fault)))

pub returns-clause-berths : goal.returns-clause-berths
returns-clause-berths g c = record {
  seated = subst (AreBerthsAt c.args.self.now.turns.docks.now c.args.self.now.turns.caller) (sym c.put_back.ensures.berths)
      (back_seated c.args.self.now.turns.docks.now c.args.self.now.turns.caller c.args.self.now.origin.now c.args.events.now
      c.args.berths.now.items c.run_all.new.jobs.items c.requires
      (c.run_all.ensures c.args.berths.now.items (c.take_out.ensures.ready c.args.self.now.turns.docks.now c.args.self.now.turns.caller c.args.events.now c.requires c.busy_docks-busy.ensures)));
  same = subst (λ bs. AreSameViews (views_of c.args.berths.now.items) (views_of bs)) (sym c.put_back.ensures.berths)
      (back_same c.args.self.now.turns.docks.now c.args.self.now.turns.caller c.args.self.now.origin.now c.args.events.now
      c.args.berths.now.items c.run_all.new.jobs.items c.requires
      (c.run_all.ensures c.args.berths.now.items (c.take_out.ensures.ready c.args.self.now.turns.docks.now c.args.self.now.turns.caller c.args.events.now c.requires c.busy_docks-busy.ensures)));
}

pub returns-clause-ok : goal.returns-clause-ok
returns-clause-ok g c =
    let over = c.run_all.ensures c.args.berths.now.items (c.take_out.ensures.ready c.args.self.now.turns.docks.now c.args.self.now.turns.caller c.args.events.now c.requires c.busy_docks-busy.ensures) in
    let jobs = c.run_all.new.jobs.items in
    let none = sym (c.lowest_fault-fault.ensures ∙ ap (λ ls. lowest_of (faults_of ls)) c.deref.ensures.value)
    ∙ c.in-None.is in
    let count = sym (length-map c.put_back.new.told.items (λ q. q.items)) ∙ ap length c.put_back.ensures.told
    ∙ length-map jobs (λ job. job.told.items) ∙ over.long in
    told_result (λ v. v.items) c.told_in_order.result
    (merged (length c.put_back.new.told.items) c.args.events.now (map (λ q. q.items) c.put_back.new.told.items))
    (λ ts. AreOffered c.args.self.now.turns.caller c.args.self.now.origin.now c.args.events.now
    (views_of c.args.berths.now.items) (views_of c.put_back.new.berths.items) ts)
    (subst (λ n. AreOffered c.args.self.now.turns.caller c.args.self.now.origin.now c.args.events.now
    (views_of c.args.berths.now.items) (views_of c.put_back.new.berths.items)
    (merged n c.args.events.now (map (λ q. q.items) c.put_back.new.told.items))) (sym count)
    (subst (λ qs. AreOffered c.args.self.now.turns.caller c.args.self.now.origin.now c.args.events.now
    (views_of c.args.berths.now.items) (views_of c.put_back.new.berths.items)
    (merged (length c.args.self.now.turns.docks.now) c.args.events.now qs)) (sym c.put_back.ensures.told)
    (subst (λ bs. AreOffered c.args.self.now.turns.caller c.args.self.now.origin.now c.args.events.now
    (views_of c.args.berths.now.items) (views_of bs)
    (merged (length c.args.self.now.turns.docks.now) c.args.events.now (told_of_jobs jobs))) (sym c.put_back.ensures.berths)
    (all_offered c.args.self.now.turns.docks.now c.args.self.now.turns.caller c.args.self.now.origin.now c.args.events.now
    c.args.berths.now.items jobs c.requires over none))))
    c.told_in_order.ensures

pub returns-clause-err : goal.returns-clause-err
returns-clause-err g c =
    let over = c.run_all.ensures c.args.berths.now.items (c.take_out.ensures.ready c.args.self.now.turns.docks.now c.args.self.now.turns.caller c.args.events.now c.requires c.busy_docks-busy.ensures) in
    let jobs = c.run_all.new.jobs.items in
    let none = sym (c.lowest_fault-fault.ensures ∙ ap (λ ls. lowest_of (faults_of ls)) c.deref.ensures.value)
    ∙ c.in-None.is in
    let told = merged (length c.args.self.now.turns.docks.now) c.args.events.now (told_of_jobs jobs) in
    all_begun c.args.self.now.turns.caller c.args.self.now.origin.now c.args.events.now c.told_in_order.result
    (views_of c.args.berths.now.items) (views_of c.put_back.new.berths.items) told
    (subst (λ bs. AreOffered c.args.self.now.turns.caller c.args.self.now.origin.now c.args.events.now
    (views_of c.args.berths.now.items) (views_of bs) told) (sym c.put_back.ensures.berths)
    (all_offered c.args.self.now.turns.docks.now c.args.self.now.turns.caller c.args.self.now.origin.now c.args.events.now
    c.args.berths.now.items jobs c.requires over none))
