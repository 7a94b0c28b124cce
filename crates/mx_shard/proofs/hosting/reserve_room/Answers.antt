use Rattle.mx_shard.proofs.HolderLemmas.{kept_back}
use Rattle.mx_shard.proofs.hosting.reserve_room.Goals as goal

pub returns-in-Err-clause-kept : goal.returns-in-Err-clause-kept
returns-in-Err-clause-kept c = kept_back c.args.holders.now c.add_holder.new.holders c.remove_holder.new.holders c.args.new.id _ c.in_ok-add_holder.ensures.moved c.remove_holder.ensures
