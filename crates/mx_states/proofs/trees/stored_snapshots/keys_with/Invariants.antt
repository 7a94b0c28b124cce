use Rattle.std.proofs.Common.{◌<◌, ◌≤◌, ◌^◌, take}
use Rattle.std.specs.List.{All}
use Rattle.mx_states.proofs.trees.stored_snapshots.keys_with.Given as goal

abbrev pub invariant-loop-entry : goal.invariant-loop-entry
invariant-loop-entry g l = record {
  all : All (λ e. e.0 < l.most) (take l.entry-index l.entries);
  more : l.fn.keys ≤ l.most;
  few : l.fn.keys ≤ 2 ^ 32 → l.most ≤ 2 ^ 32;
}
