use Rattle.mx_world.proofs.RunLemmas.{step_next}
use Rattle.mx_world.proofs.worlds.World.step.Goals as goal

pub returns-clause-next : goal.returns-clause-next
returns-clause-next g c = step_next c.advance.result c.args.self.now c.advance.new.self c.args.step.now c.advance.ensures.reply c.advance.ensures.moves
