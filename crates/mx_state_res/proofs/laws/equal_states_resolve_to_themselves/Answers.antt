use Rattle.mx_state_res.proofs.EqualStateLemmas.{resolve-same}
use Rattle.mx_state_res.proofs.laws.equal_states_resolve_to_themselves.Goals as goal

pub returns : goal.returns
returns c others same = resolve-same c.args.version c.args.graph.now c.args.state.now c.entries.ensures.sorted others same
