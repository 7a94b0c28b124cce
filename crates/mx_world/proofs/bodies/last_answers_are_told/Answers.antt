use Rattle.std.proofs.Common.{refl}
use Rattle.mx_world.specs.Replies.{body_of}
use Rattle.mx_world.proofs.TextLemmas.{text-of-last}
use Rattle.mx_world.proofs.bodies.last_answers_are_told.Goals as goal

pub returns-clause-texts : goal.returns-clause-texts
returns-clause-texts c = λ told id. text-of-last told id

pub returns-clause-body : goal.returns-clause-body
unfolding body_of
returns-clause-body c = λ told. refl
