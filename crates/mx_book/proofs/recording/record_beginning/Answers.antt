use Rattle.std.proofs.Common.{Some}
use Rattle.mx_book.specs.Journal.{last_of}
use Rattle.mx_book.specs.declared.entries.BookEntry.TheVariants.{Begun}
use Rattle.mx_book.proofs.IndexLemmas.{moved_by, indexed_begun, sound_with, may_begin}
use Rattle.mx_book.proofs.recording.record_beginning.Goals as goal

pub returns-clause-indexed : goal.returns-clause-indexed
returns-clause-indexed c =
    indexed_begun c.args.journal.now c.begun.result c.args.callers.now c.insert.new.self c.args.places.now c.args.replies.now c.args.key.now c.args.caller c.requires.indexed c.requires.free c.begun.ensures
    (moved_by c.args.callers.now c.insert.new.self c.in_ok-owned.owned c.args.key.now (Some c.args.caller) c.in_ok-owned.ensures.cases c.in_ok-insert.ensures.updates)

pub returns-clause-sound : goal.returns-clause-sound
returns-clause-sound c =
    sound_with c.args.journal.now c.begun.result c.args.place.now (Begun c.args.key.now c.args.caller) c.begun.ensures c.requires.sound c.requires.here
    (may_begin (last_of c.args.key.now c.args.journal.now) c.args.key.now c.args.caller c.requires.free)
