use Rattle.std.proofs.Common.{◌≡◌, ◌++◌, ◌∷◌, Some, None, sym, ap, ◌∙◌, arith, is_some, option_map}
use Rattle.std.specs.Prelude.{if◌then◌else◌}
use Rattle.json.specs.Json.{read_key, value}
use Rattle.json.specs.Token as spec
use Rattle.json.proofs.Grammar.{read_key-shorter}
use Rattle.serde_json.specs.Data.{no_members, put}
use Rattle.serde_json.specs.View.{members_view}
use Rattle.mx_canon.specs.Canonical.{canonical_text}
use Rattle.mx_pdu.specs.RuleContent.{is_rule_key}
use Rattle.mx_body.proofs.PartLemmas.{is_some-map}
use Rattle.mx_event_reading.specs.InOrder.{key_text}
use Rattle.mx_event_reading.proofs.ContentLemmas.{where-put}
use Rattle.mx_event_reading.proofs.InOrderLemmas.{appended_begin, appended_more, appended_end, object_appended}
use Rattle.mx_event_reading.proofs.contents.append_content.Goals as goal

pub members-init : goal.members-init
members-init c =
    rw c.in_ok-push.ensures.items
    (no_members, appended_begin (value 123) c.args.out.now.items c.next.new.self, sym (ap members_view c.new.ensures.empty))

pub members-preserved : goal.members-preserved
members-preserved c =
    let l = c.members in
    let (old, read, known) = l.invariant in
    let k = c.in-Some.key.now in
    let s = c.next_key.new.self in
    let named : read_key l.reader ≡ Some (Some k, s) = grind arith in
    let last = option_map (λ s. s.now) l.last in
    let higher = c.is_above.ensures.above (grind arith) in
    let utf8 = c.is_above.ensures.utf8 in
    let later : c.is_some.result ≡ is_some last = c.is_some.ensures ∙ sym (is_some-map (λ s. s.now) l.last) in
    let keyed = c.in_ok-append_key.ensures.ok ∙ ap (λ b. l.out.items ++ key_text b k) later in
    let done = c.in_ok-append_member.ensures in
    let d = done.ok.value in
    let a = done.ok.appended in
    let r = c.append_member.new.reader in (
      put k d old,
      appended_more (value 123) c.args.out.now.items c.next.new.self l.reader last old l.out.items read s r k d
          c.append_member.new.out.items named higher utf8 (a.0, a.1 ∙ ap (λ x. x ++ canonical_text d) keyed) done.shorter,
      where-put is_rule_key k d old (read.order.below k higher)
          ∙ ap (λ ms. if is_rule_key k then put k d ms else ms) known ∙ sym done.ok.knows_is,
    )

pub members-smaller : goal.members-smaller
members-smaller c =
    let s = c.next_key.new.self in
    let named : read_key c.members.reader ≡ Some (Some c.in-Some.key.now, s) = grind arith in
    let less = read_key-shorter c.members.reader (Some c.in-Some.key.now) s named in
    let lesser = c.in_ok-append_member.ensures.shorter in
    omega arith

pub returns-clause-ok : goal.returns-clause-ok
returns-clause-ok c =
    let l = c.members in
    let (old, read, known) = l.invariant in
    let ts = c.next.new.self in
    let r = c.next_key.new.self in
    let before = c.args.out.now.items in
    let first : c.args.reader.now ≡ spec.begin_object ∷ ts = grind arith in
    let over : read_key l.reader ≡ Some (None, r) = grind arith in
    let all = appended_end (value 123) before ts l.reader (option_map (λ s. s.now) l.last) old l.out.items read r over in (
      old,
      known,
      rw first (object_appended 124 ts r old before c.push-2.new.self.items (omega arith)
          (all.0, c.in_ok-push-2.ensures.items ∙ all.1)),
    )

pub returns-clause-shorter : goal.returns-clause-shorter
returns-clause-shorter c =
    let shorter = c.members.invariant.1.order.read.shorter in
    grind arith
