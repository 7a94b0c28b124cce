use Rattle.std.proofs.Common.{None}
use Rattle.mx_book.proofs.IndexLemmas.{moved_by_update}
use Rattle.mx_book.proofs.recording.take_caller.Goals as goal

pub returns : goal.returns
returns c = moved_by_update c.args.callers.now c.remove.new.self c.args.key.now None c.remove.ensures.updates
