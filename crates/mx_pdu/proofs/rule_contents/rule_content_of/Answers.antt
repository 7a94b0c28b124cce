use Rattle.std.proofs.Common.{◌≡◌, ◌∷◌, [], true, false, refl, sym, ap, ◌∙◌, subst, string_bytes, rules}
use Rattle.std.specs.List.Sorted.{IsStrictlySortedBy}
use Rattle.std.specs.Map.{keys_of}
use Rattle.std.specs.String.{string_cmp}
use Rattle.serde_json.specs.Data.{member, no_members}
use Rattle.serde_json.specs.View.{view, members_view}
use Rattle.serde_json.proofs.Views.{Entry}
use Rattle.mx_redact.specs.Redaction.{members_where}
use Rattle.mx_redact.proofs.AppendLemmas.{appended, AllAbove, put-above, appended-appended, appended-no_members, all_above_more, all_above_none}
use Rattle.mx_pdu.specs.RuleContent.{is_rule_key}
use Rattle.mx_pdu.proofs.RuleContentLemmas.{where-in, where-out}
use Rattle.mx_pdu.proofs.rule_contents.rule_content_of.Goals as goal

pub loop-key-init : goal.loop-key-init
loop-key-init c =
    let empty : c.new-kept.result.entries ≡ [] = search rules in
    let rest : c.into_iter-key-iterator.result ≡ c.args.content.now.entries = search rules in
    let sorted : IsStrictlySortedBy string_cmp (keys_of c.into_iter-key-iterator.result) = search rules in
    (sorted, rw empty (all_above_none _), rw (empty, rest) refl)

pub loop-key-preserved-then-not-is_rule_key : goal.loop-key-preserved-then-not-is_rule_key
unfolding IsStrictlySortedBy
loop-key-preserved-then-not-is_rule_key c =
    let l = c.loop-key in
    let k = string_bytes c.in-Some.key.now in
    let e : Entry = (c.in-Some.key.now, c.in-Some.value.now) in
    let more = c.next.new.self in
    let done = members_view l.kept.entries in
    let sorted : IsStrictlySortedBy string_cmp (keys_of (e ∷ more)) = subst (λ es. IsStrictlySortedBy string_cmp (keys_of es)) c.in-Some.ensures.steps l.invariant.0 in
    let above : AllAbove done (e ∷ more) = subst (AllAbove done) c.in-Some.ensures.steps l.invariant.1 in
    let outside : is_rule_key k ≡ false = ap is_rule_key (sym c.deref.ensures) ∙ sym c.is_rule_key.ensures ∙ c.if-not-is_rule_key.true in (
      sorted.1,
      above.1,
      ap (appended done) (sym (where-out is_rule_key k (view e.1) (members_view more) outside))
          ∙ ap (λ es. appended done (members_where is_rule_key (members_view es))) (sym c.in-Some.ensures.steps)
          ∙ l.invariant.2,
    )

pub loop-key-preserved : goal.loop-key-preserved
unfolding IsStrictlySortedBy
loop-key-preserved c =
    let l = c.loop-key in
    let k = string_bytes c.in-Some.key.now in
    let e : Entry = (c.in-Some.key.now, c.in-Some.value.now) in
    let more = c.next.new.self in
    let v = view e.1 in
    let done = members_view l.kept.entries in
    let sorted : IsStrictlySortedBy string_cmp (keys_of (e ∷ more)) = subst (λ es. IsStrictlySortedBy string_cmp (keys_of es)) c.in-Some.ensures.steps l.invariant.0 in
    let above : AllAbove done (e ∷ more) = subst (AllAbove done) c.in-Some.ensures.steps l.invariant.1 in
    let inside : is_rule_key k ≡ true = ap is_rule_key (sym c.deref.ensures) ∙ sym c.is_rule_key.ensures ∙ c.if-not-is_rule_key.false in
    let now : members_view c.copy_member.new.kept.entries ≡ appended done (member k v no_members) = search (rules, put-above done k v above.0) in (
      sorted.1,
      rw now (all_above_more done e.0 v more sorted.0 above.1),
      rw now (appended-appended done k v (members_where is_rule_key (members_view more))
          ∙ ap (appended done) (sym (where-in is_rule_key k v (members_view more) inside))
          ∙ ap (λ es. appended done (members_where is_rule_key (members_view es))) (sym c.in-Some.ensures.steps)
          ∙ l.invariant.2),
    )

pub returns : goal.returns
returns c =
    let l = c.loop-key in
    let done = members_view l.kept.entries in
    sym (appended-no_members done)
    ∙ ap (λ es. appended done (members_where is_rule_key (members_view es))) (sym c.in-None.ensures.steps.0)
    ∙ l.invariant.2
