use Rattle.mx_state_res.proofs.MaskLemmas.{low-from}
use Rattle.mx_state_res.proofs.chains.chain_walks.ChainWalk.next_start.Goals as goal

pub returns-then-le-clause-low : goal.returns-then-le-clause-low
returns-then-le-clause-low c =
    low-from c.args.self.now.states c.args.self.now.masks c.args.self.now.unsettled c.args.self.now.starts.keys c.in_ok-last.field-0.now c.in_ok-start.field-0.now c.requires
    c.in_ok-last.ensures.member c.in_ok-start.ensures.all_up_to c.if-le.ensures
