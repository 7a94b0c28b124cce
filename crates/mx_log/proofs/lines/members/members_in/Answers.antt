use Rattle.std.proofs.Common.{◌≡◌, rules}
use Rattle.json.specs.Lex.{tokens}
use Rattle.mx_log.proofs.TextMemberLemmas.{json_of_three, three_tokens}
use Rattle.mx_log.proofs.lines.members.members_in.Goals as goal

pub returns : goal.returns
returns c =
    let a = c.in_ok-first.first in
    let b = c.in_ok-second.second in
    let d = c.in_ok-third.third in
    let tokens-are : tokens c.args.line.now ≡ three_tokens a.key.now a.text.now b.key.now b.text.now d.key.now d.text.now = search rules in
    json_of_three c.args.line.now a.key.now a.text.now b.key.now b.text.now d.key.now d.text.now (search rules) tokens-are
