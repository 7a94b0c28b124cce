use Rattle.std.specs.Prelude.{◌∷◌, []}
use Rattle.mx_dock.specs.Dock.{own, number}
use Rattle.mx_book.specs.declared.entries.BookEntry.TheVariants.{GivenUp}
use Rattle.mx_engine.proofs.TurnLemmas.{put-longer}
use Rattle.mx_engine.proofs.TransactionLemmas.{held_begun, ended}
use Rattle.mx_engine.proofs.book_turns.BookTurns.give_up_at.Goals as goal

pub give_up-requires : goal.give_up-requires
give_up-requires g c =
    let t = c.take_at-docked in
    let is = c.deref_mut.ensures.value in
    rw is (held_begun c.args.self.now.caller (number c.args.berth.now) c.args.self.now.key.now (own c.args.berth.now)
    t.result.book.value.journal c.requires.berth.numbered c.requires.begun t.ensures.later t.ensures.its t.ensures.legal)

pub put-requires-clause-longer : goal.put-requires-clause-longer
put-requires-clause-longer g c =
    let t = c.take_at-docked in
    let is = c.deref_mut.ensures.value in
    put-longer (own c.args.berth.now) (own t.new.berth) t.result.book.value.journal c.give_up.new.self.journal
    (GivenUp c.args.self.now.key.now c.args.self.now.caller ∷ []) t.ensures.same (rw is at c.give_up.ensures.journal)

pub returns-clause-ended : goal.returns-clause-ended
returns-clause-ended g c =
    let t = c.take_at-docked in
    let is = c.deref_mut.ensures.value in
    let is_begun = held_begun c.args.self.now.caller (number c.args.berth.now) c.args.self.now.key.now (own c.args.berth.now)
    t.result.book.value.journal c.requires.berth.numbered c.requires.begun t.ensures.later t.ensures.its
    t.ensures.legal in
    ended c.args.self.now.caller c.args.self.now.key.now (GivenUp c.args.self.now.key.now c.args.self.now.caller) (own c.args.berth.now) (own t.new.berth)
    (own c.put.new.berth) t.result.book.value.journal c.give_up.new.self.journal
    t.ensures.same t.ensures.legal t.ensures.later is_begun c.put.ensures.same c.put.ensures.seen c.put.ensures.added
    (rw is at c.give_up.ensures.journal)
