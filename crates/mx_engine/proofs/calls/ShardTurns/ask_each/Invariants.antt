use Rattle.mx_shard.specs.LoneRoom.{to_ask}
use Rattle.mx_engine.specs.Berths.{AddNothing, views_of}
use Rattle.mx_engine.specs.Turns.{StayAtShards}
use Rattle.mx_engine.proofs.AskingLemmas.{AreAsked}
use Rattle.mx_engine.proofs.calls.ShardTurns.ask_each.Given as goal

abbrev pub invariant-loop-number : goal.invariant-loop-number
invariant-loop-number g l = record {
  berths : StayAtShards l.fn.self l.fn.berths.items l.berths.items;
  nothing : AddNothing l.fn.berths.items l.berths.items;
  asked : AreAsked (to_ask l.fn.question.origin.now l.fn.question.moment l.fn.question.query.now) (views_of l.berths.items)
      l.number l.is_refused;
}
