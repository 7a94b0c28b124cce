use Rattle.std.proofs.Common.{◌∙◌}
use Rattle.std.specs.Prelude.{◌∷◌, []}
use Rattle.mx_dock.specs.Dock.{own, number}
use Rattle.mx_engine.specs.Places.{book_caller}
use Rattle.mx_engine.proofs.TurnLemmas.{put-longer, put-own}
use Rattle.mx_engine.proofs.TransactionLemmas.{held_begun, ended, end_with, end_with-own, end_with-journal, end_with-kept, end_with-given_up}
use Rattle.mx_engine.proofs.book_turns.BookTurns.keep_at.Goals as goal

pub keep_or_give_up-result-requires : goal.keep_or_give_up-result-requires
keep_or_give_up-result-requires g c =
    let t = c.take_at-docked in
    let is = c.deref_mut.ensures.value in
    rw is (held_begun c.args.self.now.caller (number c.args.berth.now) c.args.self.now.key.now (own c.args.berth.now)
    t.result.book.value.journal c.requires.berth.numbered c.requires.begun t.ensures.later t.ensures.its t.ensures.legal)

pub put-requires-clause-longer : goal.put-requires-clause-longer
put-requires-clause-longer g c =
    let t = c.take_at-docked in
    let is = c.deref_mut.ensures.value in
    let k = c.keep_or_give_up-result in
    put-longer (own c.args.berth.now) (own t.new.berth) t.result.book.value.journal k.new.book.journal
    (end_with c.args.self.now.caller c.args.self.now.key.now c.args.reply k.result ∷ []) t.ensures.same
    (end_with-journal c.args.self.now.caller c.args.self.now.key.now c.args.reply t.result.book.value.journal k.new.book.journal k.result
    (rw is at k.ensures.kept) (rw is at k.ensures.given_up))

pub put-requires-clause-own : goal.put-requires-clause-own
put-requires-clause-own g c =
    let t = c.take_at-docked in
    let is = c.deref_mut.ensures.value in
    let k = c.keep_or_give_up-result in
    put-own book_caller c.args.self.now.caller (number t.new.berth) (own c.args.berth.now) (own t.new.berth)
    t.result.book.value.journal k.new.book.journal (end_with c.args.self.now.caller c.args.self.now.key.now c.args.reply k.result ∷ [])
    (t.ensures.numbered ∙ c.requires.berth.numbered) t.ensures.same
    (end_with-journal c.args.self.now.caller c.args.self.now.key.now c.args.reply t.result.book.value.journal k.new.book.journal k.result
    (rw is at k.ensures.kept) (rw is at k.ensures.given_up))
    (end_with-own c.args.self.now.caller c.args.self.now.key.now c.args.reply k.result)

pub returns-clause-kept : goal.returns-clause-kept
returns-clause-kept g c =
    let t = c.take_at-docked in
    let is = c.deref_mut.ensures.value in
    let k = c.keep_or_give_up-result in
    let is_begun = held_begun c.args.self.now.caller (number c.args.berth.now) c.args.self.now.key.now (own c.args.berth.now)
    t.result.book.value.journal c.requires.berth.numbered c.requires.begun t.ensures.later t.ensures.its
    t.ensures.legal in
    end_with-kept c.args.self.now.caller c.args.self.now.key.now c.args.reply (own c.args.berth.now) (own c.put.new.berth) k.result
    (ended c.args.self.now.caller c.args.self.now.key.now (end_with c.args.self.now.caller c.args.self.now.key.now c.args.reply k.result) (own c.args.berth.now)
    (own t.new.berth) (own c.put.new.berth) t.result.book.value.journal k.new.book.journal
    t.ensures.same t.ensures.legal t.ensures.later is_begun c.put.ensures.same c.put.ensures.seen c.put.ensures.added
    (end_with-journal c.args.self.now.caller c.args.self.now.key.now c.args.reply t.result.book.value.journal k.new.book.journal k.result
    (rw is at k.ensures.kept) (rw is at k.ensures.given_up)))

pub returns-clause-given_up : goal.returns-clause-given_up
returns-clause-given_up g c =
    let t = c.take_at-docked in
    let is = c.deref_mut.ensures.value in
    let k = c.keep_or_give_up-result in
    let is_begun = held_begun c.args.self.now.caller (number c.args.berth.now) c.args.self.now.key.now (own c.args.berth.now)
    t.result.book.value.journal c.requires.berth.numbered c.requires.begun t.ensures.later t.ensures.its
    t.ensures.legal in
    end_with-given_up c.args.self.now.caller c.args.self.now.key.now c.args.reply (own c.args.berth.now) (own c.put.new.berth) k.result
    (ended c.args.self.now.caller c.args.self.now.key.now (end_with c.args.self.now.caller c.args.self.now.key.now c.args.reply k.result) (own c.args.berth.now)
    (own t.new.berth) (own c.put.new.berth) t.result.book.value.journal k.new.book.journal
    t.ensures.same t.ensures.legal t.ensures.later is_begun c.put.ensures.same c.put.ensures.seen c.put.ensures.added
    (end_with-journal c.args.self.now.caller c.args.self.now.key.now c.args.reply t.result.book.value.journal k.new.book.journal k.result
    (rw is at k.ensures.kept) (rw is at k.ensures.given_up)))
