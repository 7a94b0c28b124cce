use Rattle.std.proofs.Common.{length, sym, ap, ◌∙◌}
use Rattle.mx_state_res.proofs.chains.chain_walks.ChainWalk.has_all.Goals as goal

pub covers-requires : goal.covers-requires
covers-requires c = c.requires.wide ∙ sym (ap length c.deref.ensures.value ∙ c.requires.kept.wide c.args.event c.in-Some.own.now (sym c.in-Some.ensures.value))
