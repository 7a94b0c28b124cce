use Rattle.mx_state_res.proofs.MaskLemmas.{empty-kept}
use Rattle.mx_state_res.proofs.chains.chain_walks.ChainWalk.new.Goals as goal

pub returns-clause-kept : goal.returns-clause-kept
returns-clause-kept c = empty-kept c.args.states c.new.result c.new-2.result c.new.ensures.empty c.new-2.ensures.empty
