use Rattle.std.proofs.Common.{◌<◌, ◌∷◌, None, Some, Bor, get_or, set, inl, refl, sym, ap, ◌∙◌, subst, string_bytes, arith, length, rules}
use Rattle.std.specs.Prelude.{option_map}
use Rattle.std.specs.List.Sorted.{IsStrictlySortedBy}
use Rattle.std.specs.Map.{keys_of}
use Rattle.std.specs.String.{string_cmp}
use Rattle.serde_json.specs.Data.{Data, object}
use Rattle.serde_json.specs.View.{view, members_view}
use Rattle.serde_json.specs.declared.value.Value.{Value}
use Rattle.serde_json.proofs.Views.{Entry}
use Rattle.mx_canon.proofs.KeyLemmas.{keys-members_view}
use Rattle.mx_redact.specs.EventKeys.{key_of}
use Rattle.mx_pdu.specs.EventFields.{field_at, index_of}
use Rattle.mx_pdu.proofs.EventFieldLemmas.{IsFound, nothing-at, noted-step, skipped-step}
use Rattle.mx_pdu.proofs.event_fields.EventFields.of.Goals as goal

pub loop-key-init : goal.loop-key-init
loop-key-init c =
    let here = c.into_iter-key-iterator.ensures.into_iter_gives ∙ c.iter-key-items.ensures.rest in
    let f : Bor Value → Data = λ value. view value.now in
    (search rules, refl, λ key. inl (nothing-at f key, ap (λ es. field_at key (object (members_view es))) here))

pub loop-key-preserved-in-Other : goal.loop-key-preserved-in-Other
unfolding IsStrictlySortedBy
loop-key-preserved-in-Other c =
    let l = c.loop-key in
    let e : Entry = (c.in-Some.key.now, c.in-Some.value.now) in
    let more = c.next.new.self in
    let k = string_bytes e.0 in
    let sorted : IsStrictlySortedBy string_cmp (keys_of (e ∷ more)) = subst (λ es. IsStrictlySortedBy string_cmp (keys_of es)) c.in-Some.ensures.steps l.invariant.0 in
    let rise = keys-members_view (e ∷ more) sorted in
    let other = sym (c.of.ensures ∙ ap key_of c.deref.ensures) ∙ c.in-Other.is in (
      sorted.1,
      l.invariant.1,
      λ key.
          let whole = field_at key (object (members_view c.args.members.now.entries)) in
          let here = option_map (λ value. view value.now) (get_or l.values (index_of key) None) in
          skipped-step key k (view e.1) (members_view more) here whole rise.0 other
          (subst (λ es. IsFound here (field_at key (object (members_view es))) whole) c.in-Some.ensures.steps
          (l.invariant.2 key)),
    )

pub loop-key-preserved : goal.loop-key-preserved
unfolding IsStrictlySortedBy
loop-key-preserved c =
    let l = c.loop-key in
    let f : Bor Value → Data = λ value. view value.now in
    let e : Entry = (c.in-Some.key.now, c.in-Some.value.now) in
    let more = c.next.new.self in
    let k = string_bytes e.0 in
    let sorted : IsStrictlySortedBy string_cmp (keys_of (e ∷ more)) = subst (λ es. IsStrictlySortedBy string_cmp (keys_of es)) c.in-Some.ensures.steps l.invariant.0 in
    let rise = keys-members_view (e ∷ more) sorted in
    let named = c.of.ensures ∙ ap key_of c.deref.ensures in
    let place = c.index.ensures.place in
    let fits : index_of c.of.result < length l.values = omega (arith, place, c.index.ensures.low, l.invariant.1) in (
      sorted.1,
      search (rules, l.invariant.1),
      λ key.
          let whole = field_at key (object (members_view c.args.members.now.entries)) in
          let here = option_map f (get_or l.values (index_of key) None) in
          subst (λ i. IsFound (option_map f (get_or (set l.values i (Some c.in-Some.value)) (index_of key) None)) (field_at key (object (members_view more))) whole) (sym place)
          (noted-step f l.values c.in-Some.value key c.of.result k named fits (members_view more) whole rise.0 c.in_default.not-Other
          (subst (λ es. IsFound here (field_at key (object (members_view es))) whole) c.in-Some.ensures.steps (l.invariant.2 key))),
    )
