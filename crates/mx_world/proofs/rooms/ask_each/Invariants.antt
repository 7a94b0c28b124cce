use Rattle.mx_shard.specs.LoneRoom.{to_ask}
use Rattle.mx_world.proofs.AskingLemmas.{AreAsked}
use Rattle.mx_world.proofs.rooms.ask_each.Given as goal

-- the shards so far were asked, and none but refused ones shows it
abbrev pub invariant-loop-shard : goal.invariant-loop-shard
invariant-loop-shard g l = AreAsked l.shards (to_ask l.origin l.now l.query) l.shard-index l.is_refused
