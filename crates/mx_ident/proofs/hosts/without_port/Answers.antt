use Rattle.std.proofs.Common.{◌∙◌, sym}
use Rattle.mx_ident.proofs.HostLemmas.{rsplit-colon, without_port-no_colon, without_port-port, without_port-no_port}
use Rattle.mx_ident.proofs.hosts.without_port.Goals as goal

pub returns-in_default : goal.returns-in_default
returns-in_default c =
    let none = rw c.in_default.is at (rsplit-colon c.args.name.now c.rsplit_once.result c.rsplit_once.ensures.cases) in
    sym (without_port-no_colon c.args.name.now none)

pub returns-then-is_digits : goal.returns-then-is_digits
returns-then-is_digits c =
    let cut = rw c.in-Some.is at (rsplit-colon c.args.name.now c.rsplit_once.result c.rsplit_once.ensures.cases) in
    cut.1 ∙ sym (without_port-port c.args.name.now c.in-Some.port.now cut.0 cut.2 (sym c.is_digits.ensures ∙ c.if-is_digits.true))

pub returns-else-is_digits : goal.returns-else-is_digits
returns-else-is_digits c =
    let cut = rw c.in-Some.is at (rsplit-colon c.args.name.now c.rsplit_once.result c.rsplit_once.ensures.cases) in
    sym (without_port-no_port c.args.name.now c.in-Some.port.now cut.0 cut.2 (sym c.is_digits.ensures ∙ c.if-is_digits.false))
