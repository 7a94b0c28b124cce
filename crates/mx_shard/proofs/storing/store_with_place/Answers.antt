use Rattle.mx_shard.proofs.HolderLemmas.{kept_back, kept_with, now_held}
use Rattle.mx_shard.proofs.storing.store_with_place.Goals as goal

pub returns-in-Ok-clause-kept : goal.returns-in-Ok-clause-kept
returns-in-Ok-clause-kept g c = kept_with c.args.holders.now c.add_holder.new.holders c.args.id.now c.args.new.now.number c.in_ok-add_holder.ensures.moved

pub returns-in-Ok-clause-held : goal.returns-in-Ok-clause-held
returns-in-Ok-clause-held g c = now_held c.args.holders.now c.add_holder.new.holders c.args.id.now c.args.new.now.number c.in_ok-add_holder.ensures.moved

pub returns-in-Err-clause-kept : goal.returns-in-Err-clause-kept
returns-in-Err-clause-kept g c =
    kept_back c.args.holders.now c.add_holder.new.holders c.remove_holder.new.holders c.args.id.now c.args.new.now.number c.in_ok-add_holder.ensures.moved c.remove_holder.ensures
