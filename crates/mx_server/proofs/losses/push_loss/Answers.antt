use Rattle.std.specs.Prelude.{string_bytes}
use Rattle.std.proofs.Common.{append-nil, sym}
use Rattle.std.proofs.lemmas.Bool.{eq-eqb, ne_eqb}
use Rattle.mx_server.proofs.LossLemmas.{line_added}
use Rattle.mx_server.proofs.losses.push_loss.Goals as goal

pub returns-then-lost-eq0 : goal.returns-then-lost-eq0
returns-then-lost-eq0 c = rw (eq-eqb c.args.lost 0 c.if-lost-eq0.true) (sym (append-nil _))

pub returns : goal.returns
returns c =
    line_added string_bytes c.args.directory.now c.args.number c.args.lost c.args.lines.now.items _ _
    c.in_ok-push.ensures.items c.in_ok-line.ensures (ne_eqb c.args.lost 0 c.if-lost-eq0.false)
