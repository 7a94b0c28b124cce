use Rattle.std.proofs.Common.{◌≡◌, ◌<◌, ◌++◌, List, take, drop, length, get_or, sym, ◌∙◌, ap, subst, arith}
use Rattle.std.specs.Prelude.{All}
use Rattle.mx_engine.specs.Jobs.{IsReady, IsRun, AreMoves, unmoved}
use Rattle.mx_engine.specs.declared.jobs.Job.{Job}
use Rattle.mx_engine.proofs.JobLemmas.{forward_ready, are_over, written_back}
use Rattle.mx_engine.proofs.MoveLemmas.{moves_few, length-moved}
use Rattle.mx_engine.proofs.offering.Offering.run_all.Goals as goal

pub run_jobs-requires-clause-ready : goal.run_jobs-requires-clause-ready
run_jobs-requires-clause-ready g c κs within =
    let r = c.requires.ready in
    subst (λ (ls : List (Job g.row.K.Denot)). All (IsReady c.args.self.now.turns.docks.now c.args.self.now.turns.caller c.args.events.now) ls)
    (sym c.deref_mut.ensures.value)
    (forward_ready c.args.self.now.turns.docks.now c.args.self.now.turns.caller c.args.self.now.origin.now c.args.events.now r.0
    c.bring_forward.new.moves.items c.args.jobs.now.items c.bring_forward.new.jobs.items r.1
    c.bring_forward.ensures.within c.bring_forward.ensures.jobs)

pub run_jobs-requires-clause-busy : goal.run_jobs-requires-clause-busy
run_jobs-requires-clause-busy g c κs within =
    let few = moves_few (length c.args.jobs.now.items) 0 c.bring_forward.new.moves.items c.bring_forward.ensures.within in
    let long = ap length c.deref_mut.ensures.value ∙ ap length c.bring_forward.ensures.jobs
    ∙ length-moved 0 c.bring_forward.new.moves.items c.args.jobs.now.items in
    omega (arith, few, long, c.len.ensures, c.bring_forward.new.moves.ok.0)

pub bring_back-requires : goal.bring_back-requires
bring_back-requires g c =
    let forward = c.bring_forward.new.jobs.items in
    let run = c.run_jobs.new.jobs in
    let count : length run ≡ length forward = c.run_jobs.ensures.count ∙ ap length c.deref_mut.ensures.value in
    let back = ap length (written_back c.bring_forward.new.jobs.len forward run c.bring_forward.new.jobs.ok.0 count) ∙ count
    ∙ ap length c.bring_forward.ensures.jobs ∙ length-moved 0 c.bring_forward.new.moves.items c.args.jobs.now.items in
    let given : List (Job g.row.K.Denot) = take c.bring_forward.new.jobs.len (run ++ drop (length run) forward) in
    subst (λ ms. AreMoves (length given) 0 ms) (sym c.deref.ensures.value)
    (subst (λ n. AreMoves n 0 c.bring_forward.new.moves.items) (sym back) c.bring_forward.ensures.within)

pub returns : goal.returns
returns g c = λ berths ready.
    let forward = c.bring_forward.new.jobs.items in
    let moves = c.bring_forward.new.moves.items in
    let run = c.run_jobs.new.jobs in
    let value = c.deref_mut.ensures.value in
    let count : length run ≡ length forward = c.run_jobs.ensures.count ∙ ap length value in
    let given : List (Job g.row.K.Denot) = take c.bring_forward.new.jobs.len (run ++ drop (length run) forward) in
    are_over c.args.self.now.turns.docks.now c.args.self.now.turns.caller c.args.self.now.origin.now c.args.events.now berths moves
    c.args.jobs.now.items forward run c.bring_back.new.jobs.items ready c.bring_forward.ensures.within
    c.bring_forward.ensures.jobs count
    (λ n d l. subst (λ (xs : List (Job g.row.K.Denot)). IsRun c.args.self.now.turns.docks.now c.args.self.now.turns.caller
    c.args.self.now.origin.now c.args.events.now (get_or xs n d) (get_or run n d)) value (c.run_jobs.ensures.each n d
    (subst (λ xs. n < length xs) (sym value) l)))
    (c.bring_back.ensures ∙ ap (λ ms. unmoved 0 ms given) c.deref.ensures.value
    ∙ ap (unmoved 0 moves) (written_back c.bring_forward.new.jobs.len forward run c.bring_forward.new.jobs.ok.0 count))
