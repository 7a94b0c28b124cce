use Rattle.std.proofs.Common.{◌≡◌, [], map, ap, ◌∙◌, rules}
use Rattle.mx_records.specs.Members.{member_shown}
use Rattle.mx_records.proofs.lines.plain_bytes.Goals as goal

pub returns : goal.returns
returns c =
    let lent : c.deref-2.result.now ≡ c.in_ok-members.members.items = search rules in
    (_, c.in_ok-bytes.ensures.ok _ (c.write_plain.ensures [] (ap (map member_shown) lent ∙ c.in_ok-members.ensures) c.new-line.ensures.text))
