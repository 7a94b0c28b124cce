use Rattle.mx_world.proofs.parts.ShardPart.reopen.Goals as goal

pub returns-in-Ok-clause-over : goal.returns-in-Ok-clause-over
returns-in-Ok-clause-over g c = let made = c.in-Ok.ensures in
    record { journal = made.journal; taken = made.taken; rows = made.honest; crash = made.crash; ready = made.ready; again = made.again }
