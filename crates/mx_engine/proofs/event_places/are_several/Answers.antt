use Rattle.std.proofs.Common.{sym, ◌∙◌, ap}
use Rattle.std.specs.Option.{option_copied}
use Rattle.mx_engine.proofs.StoppedLemmas.{none_of_one, of_one}
use Rattle.mx_engine.proofs.event_places.are_several.Goals as goal

pub returns-in-Some : goal.returns-in-Some
returns-in-Some c = of_one c.args.count c.of-place.result c.args.events.now c.are_all_at.result c.of-place.ensures.count c.are_all_at.ensures

pub returns-in-None : goal.returns-in-None
returns-in-None c = λ _.
    none_of_one c.args.count c.args.events.now (sym (ap option_copied c.in-None.is) ∙ c.first.ensures.value)
