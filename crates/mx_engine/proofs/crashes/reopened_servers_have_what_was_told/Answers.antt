use Rattle.mx_engine.proofs.ServerCrashLemmas.{events-there, replies-there}
use Rattle.mx_engine.proofs.crashes.reopened_servers_have_what_was_told.Goals as goal

pub returns-clause-events : goal.returns-clause-events
returns-clause-events g c =
    λ seen remember room id verdict. events-there seen c.args.world.now.shards remember room id verdict

pub returns-clause-replies : goal.returns-clause-replies
returns-clause-replies g c =
    λ seen remember idle key reply. replies-there seen c.args.world.now.books c.args.world.now.going remember idle key reply
