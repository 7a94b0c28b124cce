use Rattle.std.proofs.Common.{sym, ◌∙◌}
use Rattle.mx_book.proofs.IndexLemmas.{opening_fresh}
use Rattle.mx_book.proofs.recording.opening_in.Goals as goal

pub returns-in-None-clause-ok : goal.returns-in-None-clause-ok
returns-in-None-clause-ok c = sym (opening_fresh c.args.journal.now c.args.callers.now c.args.places.now c.args.replies.now c.args.key.now c.requires (sym c.contains_key.ensures ∙ c.if-contains_key.false) c.in-None.ensures)
