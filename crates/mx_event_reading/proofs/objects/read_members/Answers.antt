use Rattle.std.proofs.Common.{◌≡◌, ◌-◌, length, None, Some, sym, ap, ◌∙◌, arith}
use Rattle.json.specs.Json.{members, parse_map, read_key, value}
use Rattle.json.proofs.Grammar.{read_key-shorter}
use Rattle.serde_json.specs.Data.{object}
use Rattle.serde_json.specs.Read.{of_members, converted}
use Rattle.serde_json.specs.View.{members_view}
use Rattle.mx_body.proofs.GrammarLemmas.{member_read, members_over}
use Rattle.mx_event_reading.specs.BodiesRead.{members_of}
use Rattle.mx_event_reading.proofs.objects.read_members.Goals as goal

pub members-init : goal.members-init
members-init g c =
    let all = members (value 126) (length c.args.reader.now) c.args.reader.now in
    (length c.args.reader.now, omega arith, ap (λ es. converted (λ ms. of_members ms (members_view es)) all) (sym c.new.ensures.empty), tt)

pub members-preserved : goal.members-preserved
members-preserved g c =
    let p = value 126 in
    let l = c.members in
    let n = l.invariant.0 in
    let old = members_of l.found in
    let k = c.in-Some.key.now in
    let s = c.next_key.new.self in
    let named : read_key l.reader ≡ Some (Some k, s) = grind arith in
    let done = c.in_ok-found.ensures in
    let m = done.member in
    let r = c.with_member.new.reader in
    let less = read_key-shorter l.reader (Some k) s named in
    let lesser = done.shorter in (
      n - 1,
      omega (arith, l.invariant.1),
      l.invariant.2 ∙ member_read p old n k l.reader s r m.value (omega (arith, l.invariant.1)) named m.read
          ∙ ap (λ found. converted (λ ms. of_members ms found) (members p (n - 1) r)) (sym m.members_are),
      done.offered l.invariant.3,
    )

pub returns-clause-value : goal.returns-clause-value
returns-clause-value g c =
    let l = c.members in
    let r = c.next_key.new.self in
    let over : read_key l.reader ≡ Some (None, r) = grind arith in
    ap (parse_map object) (l.invariant.2 ∙ members_over (value 126) (members_of l.found) l.invariant.0 l.reader r l.invariant.1 over)
