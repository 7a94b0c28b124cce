use Rattle.std.proofs.Common.{◌≡◌, [], map, ap, ◌∙◌, rules}
use Rattle.mx_records.specs.Members.{member_shown}
use Rattle.mx_records.proofs.lines.json_bytes.Goals as goal

pub returns : goal.returns
returns c =
    let lent : c.deref.result.now ≡ c.in_ok-members.members.items = search rules in
    c.in_ok-bytes.ensures.ok _ (c.write_json.ensures [] (ap (map member_shown) lent ∙ c.in_ok-members.ensures) c.new-line.ensures.text)
