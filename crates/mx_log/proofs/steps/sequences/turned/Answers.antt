use Rattle.std.proofs.Common.{◌++◌}
use Rattle.mx_log.proofs.CallStepLemmas.{all_turned}
use Rattle.mx_log.proofs.steps.sequences.turned.Goals as goal

pub returns : goal.returns
returns g c = λ start earlier now.
    let before = c.in_ok-turns.ensures start earlier now in
    all_turned c.args.key.now c.args.count start earlier c.in_ok-last.last c.turns.new.desk.rooms.world c.closed.new.desk.rooms.world before
    (c.in_ok-last.ensures start (earlier ++ before.steps) before.done.after)
