use Rattle.std.proofs.Common.{◌<◌, ◌≤◌, ◌++◌, ◌∷◌, [], length, map, append_assoc, append-nil, refl, sym, ◌∙◌, ap, subst, arith, vec_capacity}
use Rattle.std.proofs.lemmas.List.{length-map, map-append, nil_from_length}
use Rattle.mx_engine.specs.Jobs.{berths_of, told_of_jobs}
use Rattle.mx_engine.specs.declared.jobs.Job.{Job}
use Rattle.mx_engine.proofs.RowLemmas.{next-fits}
use Rattle.mx_engine.proofs.jobs.put_back.Goals as goal

pub loop-job-init : goal.loop-job-init
loop-job-init g c = record {
  split = sym c.into_iter-job-iterator.ensures.into_iter_gives.0;
  berths = c.requires.no_berth;
  told = ap (map (λ q. q.items)) c.requires.none_told;
  room = refl;
  told_room = refl;
}

pub push_reserved-requires : goal.push_reserved-requires
push_reserved-requires g c =
    let i = c.loop-job.invariant in
    let job : Job g.row.K.Denot = c.in-Some.job in
    let fits : length c.loop-job.berths.items < vec_capacity c.loop-job.berths =
    next-fits (λ (x : Job g.row.K.Denot). x.berth) c.args.jobs.items c.loop-job.yielded c.next.new.self.rest.items job
    c.loop-job.berths.items (vec_capacity c.loop-job.berths)
    (i.split ∙ ap (λ ls. c.loop-job.yielded ++ ls) c.in-Some.ensures.steps.0) i.berths
    (subst (λ n. length c.args.jobs.items ≤ n) (sym i.room) c.requires.room) in
    omega (arith, fits, c.loop-job.berths.ok.0)

pub push_reserved-requires-in-loop-job : goal.push_reserved-requires-in-loop-job
push_reserved-requires-in-loop-job g c =
    let i = c.loop-job.invariant in
    let job : Job g.row.K.Denot = c.in-Some.job in
    let fits : length (map (λ q. q.items) c.loop-job.told.items) < vec_capacity c.loop-job.told =
    next-fits (λ (x : Job g.row.K.Denot). x.told.items) c.args.jobs.items c.loop-job.yielded c.next.new.self.rest.items job
    (map (λ q. q.items) c.loop-job.told.items) (vec_capacity c.loop-job.told)
    (i.split ∙ ap (λ ls. c.loop-job.yielded ++ ls) c.in-Some.ensures.steps.0) i.told
    (subst (λ n. length c.args.jobs.items ≤ n) (sym i.told_room) c.requires.told_room) in
    omega (arith, fits, length-map c.loop-job.told.items (λ q. q.items), c.loop-job.told.ok.0)

pub loop-job-preserved : goal.loop-job-preserved
loop-job-preserved g c =
    let i = c.loop-job.invariant in
    let done = c.loop-job.yielded in
    let job : Job g.row.K.Denot = c.in-Some.job in
    record {
      split = i.split ∙ ap (λ rest. done ++ rest) c.in-Some.ensures.steps.0
          ∙ sym (append_assoc done (job ∷ []) c.next.new.self.rest.items);
      berths = c.push_reserved.ensures.items ∙ ap (λ bs. bs ++ job.berth ∷ []) i.berths
          ∙ sym (map-append (λ (x : Job g.row.K.Denot). x.berth) done (job ∷ []));
      told = ap (map (λ q. q.items)) c.push_reserved-in-loop-job.ensures.items
          ∙ map-append (λ q. q.items) c.loop-job.told.items (job.told ∷ []) ∙ ap (λ ts. ts ++ job.told.items ∷ []) i.told
          ∙ sym (map-append (λ (x : Job g.row.K.Denot). x.told.items) done (job ∷ []));
      room = c.push_reserved.ensures.capacity ∙ i.room;
      told_room = c.push_reserved-in-loop-job.ensures.capacity ∙ i.told_room;
    }

pub returns : goal.returns
returns g c =
    let i = c.loop-job.invariant in
    let whole = i.split ∙ ap (λ rest. c.loop-job.yielded ++ rest)
    (nil_from_length c.loop-job.job-iterator.rest.items
    (omega (arith, c.loop-job.job-iterator.rest.ok.0, c.in-None.ensures.steps.0))) ∙ append-nil c.loop-job.yielded in
    record { berths = i.berths ∙ ap berths_of (sym whole); told = i.told ∙ ap told_of_jobs (sym whole) }
