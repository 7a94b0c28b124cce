use Rattle.std.proofs.Common.{◌≡◌, refl, ap, arith, Some}
use Rattle.json.specs.Json.{read_key, value}
use Rattle.serde_json.specs.Data.{no_members, put}
use Rattle.mx_body.proofs.MemberLemmas.{members_begin, members_more, members_fail, members_no_key, members_over_all}
use Rattle.mx_body.proofs.questions.read_asked.Goals as goal

pub members-init : goal.members-init
members-init c = (no_members, members_begin (value 126) c.args.reader.now, record { earliest = ap Some c.new.ensures.items; latest = ap Some c.new-2.ensures.items; limit = refl; min_depth = refl })

pub returns-in_err-key-clause-err : goal.returns-in_err-key-clause-err
returns-in_err-key-clause-err c = λ refused.
    let l = c.members in
    let (old, read, are) = l.invariant in
    members_no_key (value 126) c.args.reader.now l.reader old read c.in_err-key.ensures.value

pub returns-in_err-asked-clause-err : goal.returns-in_err-asked-clause-err
returns-in_err-asked-clause-err c = λ refused.
    let l = c.members in
    let (old, read, are) = l.invariant in
    let k = c.in-Some.key.now in
    let s = c.next_key.new.self in
    let named : read_key l.reader ≡ Some (Some k, s) = grind arith in
    members_fail (value 126) c.args.reader.now l.reader old read s k named (c.read_member.ensures.err (grind arith))

pub members-preserved : goal.members-preserved
members-preserved c =
    let l = c.members in
    let (old, read, are) = l.invariant in
    let k = c.in-Some.key.now in
    let s = c.next_key.new.self in
    let named : read_key l.reader ≡ Some (Some k, s) = grind arith in
    let done = c.in_ok-asked.ensures in
    let d = done.ok.value in (
      put k d old,
      members_more (value 126) c.args.reader.now l.reader old read s c.read_member.new.reader k d named done.ok.read c.read_member.ensures.utf8 done.ok.readable done.shorter,
      done.ok.asked old are,
    )

pub returns-clause-ok : goal.returns-clause-ok
returns-clause-ok c =
    let l = c.members in
    let (old, read, are) = l.invariant in
    record {
      members = old;
      read = members_over_all (value 126) c.args.reader.now l.reader old read c.next_key.new.self (grind arith);
      readable = read.readable;
      asked_is = are;
    }
