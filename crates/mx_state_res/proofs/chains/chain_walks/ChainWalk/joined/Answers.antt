use Rattle.std.proofs.Common.{length, sym, ap, ◌∙◌}
use Rattle.mx_state_res.proofs.chains.chain_walks.ChainWalk.joined.Goals as goal

pub add_states-requires : goal.add_states-requires
add_states-requires c =
    ap length c.deref.ensures.value ∙ c.requires.kept.wide c.args.event c.in-Some.other.now (sym c.in-Some.ensures.value) ∙ sym c.requires.wide ∙ sym c.in_ok-joined.ensures.len
