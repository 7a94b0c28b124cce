use Rattle.std.proofs.Common.{◌∷◌, [], ◌++◌, sym, ◌∙◌, ap}
use Rattle.mx_dock.specs.Dock.{own}
use Rattle.mx_keeper.specs.Places.{is_at}
use Rattle.mx_world.proofs.RefusalLemmas.{on_err}
use Rattle.mx_engine.proofs.OfferingLemmas.{nothing_there}
use Rattle.mx_engine.proofs.RunLemmas.{job_elsewhere, job_one}
use Rattle.mx_engine.proofs.offering.Offering.offer_in_job.Goals as goal

pub returns-then-not-has-clause-ok : goal.returns-then-not-has-clause-ok
returns-then-not-has-clause-ok g c =
    job_elsewhere c.args.self.now.turns.docks.now c.args.self.now.turns.caller c.args.self.now.origin.now c.args.job.now.place
    c.args.offered.now (own c.args.job.now.berth) c.args.job.now.told.items
    (sym (c.has.ensures ∙ ap (is_at c.args.job.now.place) (c.as_str.ensures.text ∙ c.room_id.ensures)) ∙ c.if-not-has.true)

pub returns-in_err-reserve-clause-err : goal.returns-in_err-reserve-clause-err
returns-in_err-reserve-clause-err g c =
    let here = sym (c.has.ensures ∙ ap (is_at c.args.job.now.place) (c.as_str.ensures.text ∙ c.room_id.ensures))
    ∙ c.if-not-has.false in
    on_err c.from_residual.result (nothing_there (own c.args.job.now.berth), here)

pub offer_there-requires-clause-here : goal.offer_there-requires-clause-here
offer_there-requires-clause-here g c =
    sym (c.has.ensures ∙ ap (is_at c.args.job.now.place) (c.as_str.ensures.text ∙ c.room_id.ensures)) ∙ c.if-not-has.false

pub returns-in_err-one-clause-err : goal.returns-in_err-one-clause-err
returns-in_err-one-clause-err g c =
    let here = sym (c.has.ensures ∙ ap (is_at c.args.job.now.place) (c.as_str.ensures.text ∙ c.room_id.ensures))
    ∙ c.if-not-has.false in
    on_err c.from_residual-in_err-one.result (c.in_err-one.ensures.err, here)

pub returns-clause-ok : goal.returns-clause-ok
returns-clause-ok g c =
    let here = sym (c.has.ensures ∙ ap (is_at c.args.job.now.place) (c.as_str.ensures.text ∙ c.room_id.ensures))
    ∙ c.if-not-has.false in (
      c.in_ok-one.one ∷ [],
      job_one c.args.self.now.turns.docks.now c.args.self.now.turns.caller c.args.self.now.origin.now c.args.job.now.place c.args.offered.now
          (own c.args.job.now.berth) (own c.offer_there.new.berth) c.in_ok-one.one here c.in_ok-one.ensures.ok,
      c.push_back_reserved.ensures.items ∙ ap (λ ts. ts ++ c.in_ok-one.one ∷ []) c.in_ok-reserve.ensures.items,
    )
