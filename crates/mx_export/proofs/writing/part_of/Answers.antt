use Rattle.std.proofs.Common.{take, sym, ap, ◌∙◌}
use Rattle.std.proofs.lemmas.List.{take_all}
use Rattle.mx_export.specs.RoomLogs.{most_events}
use Rattle.mx_export.proofs.writing.part_of.Goals as goal

pub returns-then-rest-le-MOST_EVENTS : goal.returns-then-rest-le-MOST_EVENTS
returns-then-rest-le-MOST_EVENTS c = sym (take_all most_events c.split_at.result.1.now c.if-rest-le-MOST_EVENTS.true) ∙ ap (take most_events) c.split_at.ensures.back
