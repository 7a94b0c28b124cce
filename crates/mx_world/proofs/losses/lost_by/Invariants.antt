use Rattle.std.proofs.Common.{◌≡◌, ◌++◌, drop}
use Rattle.mx_world.specs.Losses.{ids_among, not_held}
use Rattle.mx_world.specs.Worlds.{shard_journals}
use Rattle.mx_world.proofs.losses.lost_by.Given as goal

-- what was found, with that of the replies that are left
abbrev pub invariant-loop-reply : goal.invariant-loop-reply
invariant-loop-reply g l =
    l.lost.items ++ not_held (shard_journals l.fn.shards) (ids_among (drop l.reply-index l.fn.replies)) ≡ not_held (shard_journals l.fn.shards) (ids_among l.fn.replies)
