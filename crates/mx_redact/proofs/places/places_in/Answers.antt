use Rattle.std.proofs.Common.{◌≡◌, ◌+◌, ◌^◌, ◌<◌, ◌∷◌, ◌++◌, [], false, true, length, refl, sym, ap, ◌∙◌, append-nil, arith, rules}
use Rattle.serde_json.specs.View.{members_view}
use Rattle.serde_json.proofs.Views.{Entry}
use Rattle.mx_canon.specs.Canonical.{canonical_text, string_text}
use Rattle.mx_canon.specs.Sinks.{counted}
use Rattle.mx_canon.proofs.KeyLemmas.{keys-members_view}
use Rattle.mx_redact.specs.EventKeys.{key_of}
use Rattle.mx_redact.specs.Places.{places_from}
use Rattle.mx_redact.proofs.PlaceLemmas.{begin-fits, next-fits, next-sorted, next-after, next-place}
use Rattle.mx_redact.proofs.places.places_in.Goals as goal

pub loop-key-init : goal.loop-key-init
unfolding canonical_text
loop-key-init c =
    let here = c.into_iter-key-iterator.ensures.into_iter_gives ∙ c.iter-key-items.ensures.rest in
    let empty : c.in_ok-places.places.items ≡ [] = c.in_ok-places.ensures.items in (
      search rules,
      rw (empty, here) refl,
      (false, rw here c.requires),
    )

pub overflow_add-begin : goal.overflow_add-begin
overflow_add-begin c =
    let l = c.loop-key in
    let e : Entry = (c.in-Some.key.now, c.in-Some.value.now) in
    let (later, here) = l.invariant.2 in
    let small : length c.args.text.now < 2 ^ 64 = omega arith in
    let long = c.key_length.ensures ∙ ap (λ k. counted (length (string_text k ++ 58 ∷ []))) c.deref.ensures in
    let fits = begin-fits c.args.text.now l.end c.key_length.result later l.key-iterator e c.next.new.self c.in-Some.ensures.steps l.invariant.0 here long small in
    omega (arith, fits, small)

pub overflow_add-end : goal.overflow_add-end
overflow_add-end c =
    let l = c.loop-key in
    let e : Entry = (c.in-Some.key.now, c.in-Some.value.now) in
    let (later, here) = l.invariant.2 in
    let small : length c.args.text.now < 2 ^ 64 = omega arith in
    let long = c.key_length.ensures ∙ ap (λ k. counted (length (string_text k ++ 58 ∷ []))) c.deref.ensures in
    let fits = next-fits c.args.text.now l.end c.key_length.result later l.key-iterator e c.next.new.self
    c.in-Some.ensures.steps l.invariant.0 here long small c.text_length.result c.text_length.ensures in
    omega (arith, fits, small)

pub loop-key-preserved : goal.loop-key-preserved
loop-key-preserved c =
    let l = c.loop-key in
    let e : Entry = (c.in-Some.key.now, c.in-Some.value.now) in
    let more = c.next.new.self in
    let (later, here) = l.invariant.2 in
    let small : length c.args.text.now < 2 ^ 64 = omega arith in
    let long = c.key_length.ensures ∙ ap (λ k. counted (length (string_text k ++ 58 ∷ []))) c.deref.ensures in
    let key = c.of.ensures ∙ ap key_of c.deref-in-loop-key.ensures in (
      next-sorted c.args.text.now l.end c.key_length.result later l.key-iterator e more c.in-Some.ensures.steps l.invariant.0 here long small,
      ap (λ places. places ++ places_from (l.end + 1 + c.key_length.result + c.text_length.result + 1) (members_view more)) c.in_ok-push.ensures.items
          ∙ next-place c.args.text.now l.end c.key_length.result later l.key-iterator e more c.in-Some.ensures.steps
          l.invariant.0 here long small c.text_length.result c.text_length.ensures c.of.result l.places.items
          (places_from 1 (members_view c.args.event.now.entries)) key l.invariant.1,
      (
        true,
        next-after c.args.text.now l.end c.key_length.result later l.key-iterator e more c.in-Some.ensures.steps
            l.invariant.0 here long small c.text_length.result c.text_length.ensures,
      ),
    )

pub returns : goal.returns
returns c =
    let l = c.loop-key in
    let all = c.args.event.now.entries in
    let places = sym (append-nil l.places.items) ∙ ap (λ es. l.places.items ++ places_from (l.end + 1) (members_view es)) (sym c.in-None.ensures.steps.0) ∙ l.invariant.1 in
    record { rise = keys-members_view all c.iter-key-items.ensures.ordered; text_is = c.requires; places_are = places }
