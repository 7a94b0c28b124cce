use Rattle.std.proofs.Common.{rules, ◌≡◌, true, take, arith, ◌+◌, ◌∙◌}
use Rattle.std.proofs.lemmas.Grind.{common_steps}
use Rattle.mx_ident.specs.Identifier.{begins_with}
use Rattle.mx_ident.proofs.ColonLemmas.{begins_with-first}
use Rattle.mx_ident.proofs.HostLemmas.{find-bracket}
use Rattle.mx_ident.proofs.hosts.bracketed.Goals as goal

pub returns-in_err-closing : goal.returns-in_err-closing
returns-in_err-closing c =
    let opens : begins_with 91 c.args.name.now ≡ true = begins_with-first 91 c.args.name.now true (search rules) (search rules) in
    rw c.from_residual.ensures (rw c.in_err-closing.was at (find-bracket c.args.name.now c.find.result opens c.find.ensures.cases))

pub returns : goal.returns
returns c =
    let opens : begins_with 91 c.args.name.now ≡ true = begins_with-first 91 c.args.name.now true (search rules) (search rules) in
    let found = rw c.in_ok-closing.was at (find-bracket c.args.name.now c.find.result opens c.find.ensures.cases) in
    let cut : c.range.result.now ≡ take (c.in_ok-closing.closing + 1) c.args.name.now = grind (arith, common_steps) in
    (found.0, cut ∙ found.1)
