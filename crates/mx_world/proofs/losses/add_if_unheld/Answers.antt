use Rattle.std.proofs.Common.{sym, ◌∙◌}
use Rattle.mx_world.specs.Worlds.{shard_journals}
use Rattle.mx_world.proofs.LossLemmas.{any-journals, is_there, is_lost}
use Rattle.mx_world.proofs.losses.add_if_unheld.Goals as goal

pub returns-then-is_held : goal.returns-then-is_held
returns-then-is_held g c =
    is_there (shard_journals c.args.shards.now) c.args.id c.args.lost.now.items
    (any-journals c.args.id c.args.shards.now ∙ sym c.is_held.ensures ∙ c.if-is_held.true)

pub returns : goal.returns
returns g c =
    c.in_ok-push.ensures.items
    ∙ is_lost (shard_journals c.args.shards.now) c.args.id c.args.lost.now.items
    (any-journals c.args.id c.args.shards.now ∙ sym c.is_held.ensures ∙ c.if-is_held.false)
