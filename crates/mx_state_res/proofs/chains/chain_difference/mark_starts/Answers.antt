use Rattle.mx_state_res.proofs.WalkStartLemmas.{last-in}
use Rattle.mx_state_res.proofs.chains.chain_difference.mark_starts.Goals as goal

pub auth_events-requires : goal.auth_events-requires
auth_events-requires c =
    let start = c.in-Some.start in
    c.requires.known start (c.loop-start.invariant.fewer start (last-in start c.loop-start.walk.starts.keys c.next_start.new.self.starts.keys c.in-Some.ensures.some))
