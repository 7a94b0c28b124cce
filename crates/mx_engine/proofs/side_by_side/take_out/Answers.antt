use Rattle.std.proofs.Common.{◌<◌, ◌≤◌, ℕ, true, List, [], length, get_or, sym, ◌∙◌, ap, subst, vec_capacity}
use Rattle.mx_dock.specs.declared.berths.Berth.{Berth}
use Rattle.mx_shard.specs.Journal.{Entry}
use Rattle.mx_engine.specs.Jobs.{IsFresh}
use Rattle.mx_engine.specs.declared.docked.DockedShard.{DockedShard}
use Rattle.mx_engine.specs.declared.jobs.Job.{Job}
use Rattle.mx_engine.proofs.JobLemmas.{are_ready}
use Rattle.mx_engine.proofs.side_by_side.take_out.Goals as goal

pub jobs_of-requires-clause-few : goal.jobs_of-requires-clause-few
jobs_of-requires-clause-few g c =
    subst (λ bs. length bs ≤ 64) (ap (λ v. v.items) (sym c.replace-taken.ensures.value)) c.requires.few

pub jobs_of-requires-clause-room : goal.jobs_of-requires-clause-room
jobs_of-requires-clause-room g c =
    subst (λ bs. length bs ≤ vec_capacity c.args.jobs.now) (ap (λ v. v.items) (sym c.replace-taken.ensures.value))
    c.requires.room

pub returns-clause-ready : goal.returns-clause-ready
returns-clause-ready g c = λ docks caller events seated idle.
    let is = ap (λ v. v.items) c.replace-taken.ensures.value in
    are_ready docks caller [] events c.args.berths.now.items c.args.busy.now c.jobs_of.new.jobs.items
    seated (c.jobs_of.ensures.count ∙ ap length is) idle
    (subst (λ (bs : List (Berth (DockedShard g.row.K.Denot) Entry)). (n : ℕ) (d : Job g.row.K.Denot)
    (b : Berth (DockedShard g.row.K.Denot) Entry) → n < length bs
    → IsFresh n (length bs) (get_or c.args.busy.now n true) (get_or bs n b) (get_or c.jobs_of.new.jobs.items n d)) is
    c.jobs_of.ensures.each)
