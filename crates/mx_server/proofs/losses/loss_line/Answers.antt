use Rattle.std.proofs.Common.{rules}
use Rattle.std.proofs.lemmas.Bool.{eq-eqb, ne_eqb}
use Rattle.mx_server.proofs.losses.loss_line.Goals as goal

pub returns-then-lost-eq1 : goal.returns-then-lost-eq1
returns-then-lost-eq1 c = rw (eq-eqb c.args.lost 1 c.if-lost-eq1.true) (search rules)

pub returns : goal.returns
returns c = rw (ne_eqb c.args.lost 1 c.if-lost-eq1.false) (search rules)
