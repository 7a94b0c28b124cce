use Rattle.std.proofs.Common.{◌≡◌, ◌++◌, map, vec_capacity}
use Rattle.mx_engine.specs.Jobs.{berths_of, told_of_jobs}
use Rattle.mx_engine.proofs.jobs.put_back.Given as goal

abbrev pub invariant-loop-job : goal.invariant-loop-job
invariant-loop-job g l = record {
  split : l.fn.jobs.items ≡ l.yielded ++ l.job-iterator.rest.items;
  berths : l.berths.items ≡ berths_of l.yielded;
  told : map (λ q. q.items) l.told.items ≡ told_of_jobs l.yielded;
  room : vec_capacity l.berths ≡ vec_capacity l.fn.berths;
  told_room : vec_capacity l.told ≡ vec_capacity l.fn.told;
}
