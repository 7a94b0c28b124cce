use Rattle.std.proofs.Common.{rules, ◌∙◌}
use Rattle.mx_ident.proofs.OctetLemmas.{is_octet-parse}
use Rattle.mx_ident.proofs.hosts.is_octet.Goals as goal

pub returns-then-is_digits : goal.returns-then-is_digits
returns-then-is_digits c =
    c.is_ok.ensures.value ∙ is_octet-parse c.args.part.now c.parse.result c.parse.ensures.value.0 (search rules)
