use Rattle.std.proofs.Common.{IsTrue}
use Rattle.mx_keeper.specs.Places.{is_at}
use Rattle.mx_book.specs.Journal.{last_of}
use Rattle.mx_book.specs.declared.entries.BookEntry.TheVariants.{Kept}
use Rattle.mx_book.proofs.JournalLemmas.{holds_of_begun}
use Rattle.mx_book.proofs.IndexLemmas.{sound_with, may_end, same_caller}
use Rattle.mx_book.proofs.recording.record_reply.Goals as goal

pub returns-clause-sound : goal.returns-clause-sound
returns-clause-sound c =
    let own = c.args.key.now in
    sound_with c.args.journal.now c.kept.result c.args.place.now (Kept own c.args.caller c.args.reply) c.kept.ensures c.requires.sound
    (holds_of_begun (λ q. IsTrue (is_at c.args.place.now q.origin)) c.args.journal.now own c.args.caller c.requires.sound.here c.requires.begun)
    (may_end (last_of own c.args.journal.now) (Kept own c.args.caller c.args.reply) c.args.caller c.requires.begun (λ _. same_caller c.args.caller))
