use Rattle.mx_room.proofs.AnswerLemmas.{told-redacted}
use Rattle.mx_room.proofs.RoomLemmas.{at-error}
use Rattle.mx_room.proofs.queries.served_events.shown_event.Goals as goal

pub returns-in_err-event-clause-memory : goal.returns-in_err-event-clause-memory
returns-in_err-event-clause-memory c =
    at-error c.from_residual.result (told-redacted c.args.viewer.now.kept c.args.viewer.now.server c.args.number c.in_err-event.ensures.memory)
