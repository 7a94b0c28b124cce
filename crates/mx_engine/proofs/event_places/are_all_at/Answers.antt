use Rattle.std.proofs.Common.{◌≡◌, sym, ◌∙◌, ap, subst}
use Rattle.std.specs.Prelude.{All}
use Rattle.std.proofs.lemmas.List.{take_all}
use Rattle.std.proofs.lemmas.List.Elements.{All-nil}
use Rattle.mx_keeper.specs.Places.{place_number, is_at}
use Rattle.mx_pdu.specs.Event.{room_of}
use Rattle.mx_engine.proofs.StoppedLemmas.{all_at_more}
use Rattle.mx_engine.proofs.event_places.are_all_at.Goals as goal

pub loop-offered-init : goal.loop-offered-init
loop-offered-init c = All-nil (λ o. place_number c.args.place.count (room_of o.pdu) ≡ c.args.place.number)

pub loop-offered-preserved : goal.loop-offered-preserved
loop-offered-preserved c =
    all_at_more c.args.place c.args.events.now c.loop-offered.offered-index c.offered-item.result c.loop-offered-test.true
    c.offered-item.is
    (sym (c.has.ensures ∙ ap (is_at c.args.place) (c.as_str.ensures.text ∙ c.room_id.ensures)) ∙ c.if-not-has.false)
    c.loop-offered.invariant

pub returns : goal.returns
returns c = λ _.
    subst (All (λ o. place_number c.args.place.count (room_of o.pdu) ≡ c.args.place.number))
    (take_all c.loop-offered.offered-index c.args.events.now c.loop-offered-test.false) c.loop-offered.invariant
