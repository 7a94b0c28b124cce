use Rattle.std.proofs.Common.{◌≡◌, ◌++◌}
use Rattle.serde_json.specs.View.{members_view}
use Rattle.mx_world.specs.Losses.{kept_ids, not_held}
use Rattle.mx_world.specs.Worlds.{shard_journals}
use Rattle.mx_world.proofs.losses.add_lost_among.Given as goal

-- what was found, with that of the answers that are left
abbrev pub invariant-loop-id : goal.invariant-loop-id
invariant-loop-id g l =
    l.lost.items ++ not_held (shard_journals l.fn.shards) (kept_ids (members_view l.id-iterator)) ≡ l.fn.lost.items ++ not_held (shard_journals l.fn.shards) (kept_ids (members_view l.fn.answers.entries))
