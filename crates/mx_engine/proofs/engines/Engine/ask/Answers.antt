use Rattle.std.proofs.Common.{refl}
use Rattle.mx_engine.proofs.engines.Engine.ask.Goals as goal

pub returns-in-Some-clause-nothing : goal.returns-in-Some-clause-nothing
returns-in-Some-clause-nothing g c = c.call_in.ensures.asked c.args.origin.now c.args.now c.args.query.now refl
