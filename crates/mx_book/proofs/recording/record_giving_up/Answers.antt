use Rattle.std.proofs.Common.{IsTrue}
use Rattle.mx_keeper.specs.Places.{is_at}
use Rattle.mx_book.specs.Journal.{last_of}
use Rattle.mx_book.specs.declared.entries.BookEntry.TheVariants.{GivenUp}
use Rattle.mx_book.proofs.JournalLemmas.{holds_of_begun}
use Rattle.mx_book.proofs.IndexLemmas.{indexed_given_up, sound_with, may_end, same_caller}
use Rattle.mx_book.proofs.recording.record_giving_up.Goals as goal

pub returns-clause-indexed : goal.returns-clause-indexed
returns-clause-indexed c =
    indexed_given_up c.args.journal.now c.given_up.result c.args.callers.now c.take_caller.new.callers c.args.places.now c.args.replies.now c.args.key.now c.args.caller c.requires.indexed c.requires.begun c.given_up.ensures c.take_caller.ensures

pub returns-clause-sound : goal.returns-clause-sound
returns-clause-sound c =
    let own = c.args.key.now in
    sound_with c.args.journal.now c.given_up.result c.args.place.now (GivenUp own c.args.caller) c.given_up.ensures c.requires.sound
    (holds_of_begun (λ q. IsTrue (is_at c.args.place.now q.origin)) c.args.journal.now own c.args.caller c.requires.sound.here c.requires.begun)
    (may_end (last_of own c.args.journal.now) (GivenUp own c.args.caller) c.args.caller c.requires.begun (λ _. same_caller c.args.caller))
