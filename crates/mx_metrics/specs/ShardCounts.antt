-- What a shard has (docs/OPERATION.md).
use Rattle.std.specs.Prelude.{ℕ, max}
use Rattle.mx_metrics.specs.Counts.{sum_up_to_most}
use Rattle.mx_metrics.specs.declared.shard_counts.ShardCounts.{ShardCounts}

abbrev pub none : ShardCounts
none = record { rooms = 0; events = 0; most_extremities = 0 }

-- with one more room
abbrev pub with_room : ShardCounts → (events extremities : ℕ) → ShardCounts
with_room counts events extremities = record {
  rooms = sum_up_to_most counts.rooms 1;
  events = sum_up_to_most counts.events events;
  most_extremities = max counts.most_extremities extremities;
}
