use Rattle.mx_log.proofs.GivenUpLemmas.{not_open}
use Rattle.mx_log.proofs.MemoryWorldLemmas.{none_refused_still}
use Rattle.mx_log.proofs.memory_worlds.MemoryWorld.abandon.Goals as goal

pub invariant_of-self : goal.invariant_of-self
invariant_of-self c = record {
  none_refused = none_refused_still c.args.self.now.world c.abandon.new.self c.abandon.ensures.shards c.abandon.ensures.refused c.args.self.now.none_refused;
}

pub returns : goal.returns
returns c = not_open c.args.key.now c.args.self.now.world c.abandon.new.self c.abandon.ensures.statuses
