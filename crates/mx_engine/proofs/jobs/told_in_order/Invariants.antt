use Rattle.std.proofs.Common.{◌≡◌, ◌++◌, length, map, drop}
use Rattle.mx_engine.specs.Jobs.{merged}
use Rattle.mx_engine.proofs.jobs.told_in_order.Given as goal

-- what is told so far, and what is to be told of those that are left
abbrev pub invariant-loop-offered : goal.invariant-loop-offered
invariant-loop-offered l = record {
  long : length l.told_there.items ≡ length l.fn.told_there.items;
  so_far : l.told.items ++ merged (length l.fn.told_there.items) (drop l.offered-index l.fn.events)
      (map (λ q. q.items) l.told_there.items)
      ≡ merged (length l.fn.told_there.items) l.fn.events (map (λ q. q.items) l.fn.told_there.items);
}
