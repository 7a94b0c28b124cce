use Rattle.std.proofs.Common.{◌≡◌, ◌<◌, ◌≤◌, ℕ, true, drop, length, get_or, vec_capacity}
use Rattle.mx_dock.specs.declared.berths.Berth.{Berth}
use Rattle.mx_shard.specs.Journal.{Entry}
use Rattle.mx_engine.specs.Jobs.{IsFresh}
use Rattle.mx_engine.specs.declared.docked.DockedShard.{DockedShard}
use Rattle.mx_engine.specs.declared.jobs.Job.{Job}
use Rattle.mx_engine.proofs.jobs.jobs_of.Given as goal

abbrev pub invariant-loop-berth : goal.invariant-loop-berth
invariant-loop-berth g l = record {
  left : l.berth-iterator.rest.items ≡ drop (length l.jobs.items) l.fn.berths.items;
  within : length l.jobs.items ≤ length l.fn.berths.items;
  each : (n : ℕ) (d : Job g.row.K.Denot) (b : Berth (DockedShard g.row.K.Denot) Entry) → n < length l.jobs.items
      → IsFresh n (length l.fn.berths.items) (get_or l.fn.busy n true) (get_or l.fn.berths.items n b)
      (get_or l.jobs.items n d);
  room : vec_capacity l.jobs ≡ vec_capacity l.fn.jobs;
}
