use Rattle.std.proofs.Common.{rules}
use Rattle.mx_keeper.proofs.CellLemmas.{no_room}
use Rattle.mx_keeper.proofs.event_texts.room_of.Goals as goal

pub returns-in-Err-NotAnId-clause-table : goal.returns-in-Err-NotAnId-clause-table
returns-in-Err-NotAnId-clause-table c _ = no_room c.args.text.now c.in-Err-NotAnId.field-0-0 ((c.in-Err-NotAnId.ensures.refused c.in-Err-NotAnId.field-0-0).0 (search rules))
