use Rattle.std.proofs.Common.{◌<◌, true, length, refl, ◌∙◌, ap, arith}
use Rattle.std.proofs.lemmas.List.{length-set}
use Rattle.mx_keeper.specs.Places.{place_number}
use Rattle.mx_engine.proofs.ToldLemmas.{idle_more, idle_all}
use Rattle.mx_engine.proofs.event_places.busy_docks.Goals as goal

pub loop-offered-init : goal.loop-offered-init
loop-offered-init c = record { long = refl; idle = λ n l is. refl }

pub loop-offered-preserved : goal.loop-offered-preserved
loop-offered-preserved c =
    let i = c.loop-offered.invariant in
    let n = c.number.result in
    let within : n < length c.loop-offered.busy =
    omega (arith, i.long, c.requires.few, c.number.ensures.within, c.of-place.ensures.count) in
    record {
      long = length-set c.loop-offered.busy n true ∙ i.long;
      idle = idle_more c.args.count c.loop-offered.offered-index n c.args.events.now c.offered-item.result
          c.loop-offered.busy c.loop-offered-test.true c.offered-item.is
          (c.number.ensures.number ∙ c.of-place.ensures.number
          ∙ ap (place_number c.args.count) (c.as_str.ensures.text ∙ c.room_id.ensures)) within i.idle;
    }

pub returns : goal.returns
returns c = idle_all c.args.count c.loop-offered.offered-index c.args.events.now c.loop-offered.busy
    c.loop-offered-test.false c.loop-offered.invariant.idle
