use Rattle.std.proofs.Common.{◌∙◌}
use Rattle.mx_dock.specs.Dock.{own, number}
use Rattle.mx_engine.specs.Places.{book_caller}
use Rattle.mx_engine.proofs.TurnLemmas.{put-longer, put-own}
use Rattle.mx_engine.proofs.TransactionLemmas.{opened_longer, opened}
use Rattle.mx_engine.proofs.book_turns.BookTurns.begin_at.Goals as goal

pub put-requires-clause-longer : goal.put-requires-clause-longer
put-requires-clause-longer g c =
    let t = c.take_at-docked in
    let is = c.deref_mut.ensures.value in
    let l = opened_longer c.args.self.now.caller c.args.self.now.key.now t.result.book.value.journal c.open-result.new.self.journal
    c.open-result.result (rw is at c.open-result.ensures.journal) (rw is at c.open-result.ensures.err) in
    put-longer (own c.args.berth.now) (own t.new.berth) t.result.book.value.journal c.open-result.new.self.journal l.rest
    t.ensures.same l.is

pub put-requires-clause-own : goal.put-requires-clause-own
put-requires-clause-own g c =
    let t = c.take_at-docked in
    let is = c.deref_mut.ensures.value in
    let l = opened_longer c.args.self.now.caller c.args.self.now.key.now t.result.book.value.journal c.open-result.new.self.journal
    c.open-result.result (rw is at c.open-result.ensures.journal) (rw is at c.open-result.ensures.err) in
    put-own book_caller c.args.self.now.caller (number t.new.berth) (own c.args.berth.now) (own t.new.berth)
    t.result.book.value.journal c.open-result.new.self.journal l.rest (t.ensures.numbered ∙ c.requires.berth.numbered)
    t.ensures.same l.is l.mine

pub returns-clause-opened : goal.returns-clause-opened
returns-clause-opened g c =
    let t = c.take_at-docked in
    let is = c.deref_mut.ensures.value in
    opened c.args.self.now.caller (number c.args.berth.now) c.args.self.now.key.now (own c.args.berth.now) (own t.new.berth)
    (own c.put.new.berth) t.result.book.value.journal c.open-result.new.self.journal c.open-result.result
    c.requires.berth.numbered t.ensures.same t.ensures.legal t.ensures.later t.ensures.opens t.ensures.its c.put.ensures.same
    c.put.ensures.seen c.put.ensures.added (rw is at c.open-result.ensures.reply)
    (rw is at c.open-result.ensures.journal) (rw is at c.open-result.ensures.err)
