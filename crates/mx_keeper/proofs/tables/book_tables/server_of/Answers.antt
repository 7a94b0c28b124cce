use Rattle.std.proofs.Common.{rules}
use Rattle.mx_keeper.proofs.BookRowLemmas.{no_server}
use Rattle.mx_keeper.proofs.tables.book_tables.server_of.Goals as goal

pub returns-in-Err-NotAnId-clause-table : goal.returns-in-Err-NotAnId-clause-table
returns-in-Err-NotAnId-clause-table c _ = no_server c.args.text.now c.in-Err-NotAnId.field-0-0 ((c.in-Err-NotAnId.ensures.refused c.in-Err-NotAnId.field-0-0).0 (search rules))
