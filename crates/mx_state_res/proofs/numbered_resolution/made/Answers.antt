use Rattle.std.proofs.Common.{refl, sym}
use Rattle.mx_states.specs.Numbered.{state_at}
use Rattle.mx_state_res.proofs.ResolvingLemmas.{change-none}
use Rattle.mx_state_res.proofs.numbered_resolution.made.Goals as goal

pub returns-then-is_empty-clause-made : goal.returns-then-is_empty-clause-made
returns-then-is_empty-clause-made c =
    sym (change-none c.args.change.now.taken (state_at c.args.states.now c.args.change.now.parent) c.args.change.now.puts (c.if-is_empty.ensures.taken refl) (c.if-is_empty.ensures.puts refl))
