use Rattle.std.proofs.Common.{Some}
use Rattle.mx_book.proofs.IndexLemmas.{moved_by}
use Rattle.mx_book.proofs.recording.add_place.Goals as goal

pub returns-clause-ok : goal.returns-clause-ok
returns-clause-ok c = moved_by c.args.places.now c.insert.new.self c.in_ok-owned.owned c.args.key.now (Some c.args.place) c.in_ok-owned.ensures.cases c.in_ok-insert.ensures.updates
