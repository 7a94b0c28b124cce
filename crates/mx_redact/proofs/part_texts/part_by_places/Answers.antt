use Rattle.std.proofs.Common.{◌≡◌, ◌+◌, true, false, get_or, drop, sym, ap, ◌∙◌, subst}
use Rattle.std.specs.Prelude.{option_map}
use Rattle.serde_json.specs.Data.{object}
use Rattle.serde_json.specs.View.{members_view}
use Rattle.mx_canon.specs.Canonical.{canonical_text}
use Rattle.mx_redact.specs.PartTexts.{AllKnown, is_key_in, selection_of}
use Rattle.mx_redact.specs.Selected.{selected}
use Rattle.mx_redact.specs.declared.event_keys.EventKey.TheVariants.{AuthEvents}
use Rattle.mx_redact.specs.declared.places.MemberPlace.{MemberPlace}
use Rattle.mx_redact.proofs.PartTextLemmas.{left-all, left-next, left-put, left-out, left-none}
use Rattle.mx_redact.proofs.part_texts.part_by_places.Goals as goal
use Rattle.mx_redact.proofs.part_texts.part_by_places.Goals.{then-has, else-has}

pub loop-place-init : goal.loop-place-init
loop-place-init c =
    let known = option_map (λ members. members_view members.now.entries) c.args.known in
    let new = c.in_ok-out.ensures in (
      new.part,
      λ all are is. left-all c.args.text.now c.args.places.now known c.in_ok-out.out all are (subst (λ p. AllKnown p known all) (sym new.part) is) (new.holds all) new.first,
    )

pub put-requires : goal.put-requires
put-requires c = c.requires c.loop-place.place-index _ c.loop-place-test.true

pub loop-place-preserved : goal.loop-place-preserved
loop-place-preserved c =
    let l = c.loop-place in
    let i = l.place-index in
    let none : MemberPlace = record { key = AuthEvents; start = 0; value = 0; end = 0 } in
    let place = get_or c.args.places.now i none in
    let later = drop (i + 1) c.args.places.now in
    let known = option_map (λ members. members_view members.now.entries) c.args.known in
    let part = l.invariant.0 in
    elim c.if-has.branch [
      | then-has w ↦
          let inside : is_key_in l.out.part place.key ≡ true = ap (λ p. is_key_in p place.key) part ∙ sym c.has.ensures ∙ w.if-has.true in
          rw w.out-is (
            w.put.ensures.part ∙ part,
            λ all are is. left-put c.args.text.now place later known l.out w.put.new.self all inside w.put.ensures.part w.put.ensures.later w.put.ensures.text
                (left-next c.args.text.now c.args.places.now i none known l.out all c.loop-place-test.true (l.invariant.1 all are is)),
          )
      | else-has w ↦
          let outside : is_key_in l.out.part place.key ≡ false = ap (λ p. is_key_in p place.key) part ∙ sym c.has.ensures ∙ w.if-has.false in
          rw w.out-is (
            part,
            λ all are is. left-out c.args.text.now place later known l.out all outside
                (left-next c.args.text.now c.args.places.now i none known l.out all c.loop-place-test.true (l.invariant.1 all are is)),
          )
    ]

pub returns : goal.returns
returns c = λ all are is.
    let l = c.loop-place in
    let known = option_map (λ members. members_view members.now.entries) c.args.known in
    c.in_ok-bytes.ensures all (left-none c.args.text.now c.args.places.now l.place-index known l.out all c.loop-place-test.false (l.invariant.1 all are is))
    ∙ ap (λ p. canonical_text (object (selected (selection_of p) all))) l.invariant.0
