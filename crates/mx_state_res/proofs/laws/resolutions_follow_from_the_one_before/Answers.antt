use Rattle.mx_state_res.proofs.LaterResolutionLemmas.{resolves-from-the-one-before}
use Rattle.mx_state_res.proofs.laws.resolutions_follow_from_the_one_before.Goals as goal

pub returns : goal.returns
returns c = resolves-from-the-one-before c.args.graph.now c.graph_is_sound.ensures
