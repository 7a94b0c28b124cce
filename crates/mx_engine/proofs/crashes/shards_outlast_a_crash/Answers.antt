use Rattle.mx_engine.proofs.ShardCrashLemmas.{shard-whole, shared-leaves, in-seen, out-seen, leaves-all, exit-leaves, all-remember}
use Rattle.mx_engine.proofs.crashes.shards_outlast_a_crash.Goals as goal

pub returns-clause-whole : goal.returns-clause-whole
returns-clause-whole g c = λ taken.
    shard-whole g.K.Keeper.is_ready g.K.Keeper.is_honest g.K.Keeper.is_open g.K.Keeper.rows g.K.Keeper.may_leave
    g.met.K.Keeper.settled c.args.shard.now
    (record { here = c.place.ensures.here; legal = c.place.ensures.legal; rows = c.place.ensures.rows }) taken

pub returns-clause-shared : goal.returns-clause-shared
returns-clause-shared g c =
    shared-leaves g.K.Keeper.is_ready g.K.Keeper.is_honest g.K.Keeper.is_open g.K.Keeper.rows g.K.Keeper.may_leave
    g.met.K.Keeper.settled c.args.shard.now

pub returns-clause-begins : goal.returns-clause-begins
returns-clause-begins g c = in-seen c.args.shard.now

pub returns-clause-in_dock : goal.returns-clause-in_dock
returns-clause-in_dock g c = λ shared passes lies honest left may.
    let shard = c.args.shard.now in
    let leaves = shared-leaves g.K.Keeper.is_ready g.K.Keeper.is_honest g.K.Keeper.is_open g.K.Keeper.rows
    g.K.Keeper.may_leave g.met.K.Keeper.settled shard shared in
    all-remember g.K.Keeper.is_ready g.K.Keeper.is_honest g.K.Keeper.is_open g.K.Keeper.rows g.K.Keeper.may_leave
    shard.journal left passes
    (leaves-all g.K.Keeper.is_ready g.K.Keeper.is_honest g.K.Keeper.is_open g.K.Keeper.rows g.K.Keeper.may_leave shard leaves
    honest left may) (in-seen shard passes lies)

pub returns-clause-in_call : goal.returns-clause-in_call
returns-clause-in_call g c = λ shared passes out entries new exit honest left may.
    let shard = c.args.shard.now in
    let leaves = shared-leaves g.K.Keeper.is_ready g.K.Keeper.is_honest g.K.Keeper.is_open g.K.Keeper.rows
    g.K.Keeper.may_leave g.met.K.Keeper.settled shard shared in
    all-remember g.K.Keeper.is_ready g.K.Keeper.is_honest g.K.Keeper.is_open g.K.Keeper.rows g.K.Keeper.may_leave
    shard.journal left passes
    (exit-leaves g.K.Keeper.is_ready g.K.Keeper.is_honest g.K.Keeper.is_open g.K.Keeper.rows g.K.Keeper.may_leave entries
    shard new leaves exit honest left may) (out-seen shard passes out)
