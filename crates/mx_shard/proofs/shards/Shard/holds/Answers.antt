use Rattle.std.proofs.Common.{◌∙◌, ap}
use Rattle.mx_shard.specs.Journal.{has_id}
use Rattle.mx_shard.specs.Holders.{some_has}
use Rattle.mx_shard.specs.View.{ShardView}
use Rattle.mx_shard.proofs.HeldLemmas.{held-is}
use Rattle.mx_shard.proofs.shards.Shard.holds.Goals as goal

pub returns : goal.returns
returns g c =
    c.is_held_among.ensures ∙ ap (λ rooms. some_has rooms c.args.id.now) c.deref.ensures.value
    ∙ held-is c.self.inside.rooms.items c.self.inside.numbers c.self.inside.journal.items c.self.invariant.0.indexed c.args.id.now
    ∙ ap (λ (shard : ShardView _). has_id shard.journal c.args.id.now) c.self.view_is
