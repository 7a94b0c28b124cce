use Rattle.std.proofs.Common.{◌∙◌, [], sym, ap, refl, None}
use Rattle.mx_world.specs.Replies.{open_reply}
use Rattle.mx_world.specs.Moves.{after_open}
use Rattle.mx_world.specs.Worlds.{book_journals, holds_of, found, status_found, statuses_of}
use Rattle.mx_world.proofs.StatusLemmas.{at_same, open-busy, stays-busy, none-found, state-kept, state-fresh, never-busy, replayed, opened-all, refused-all, taken-back, found-update}
use Rattle.mx_world.proofs.transacting.open_in.Goals as goal

pub returns-then-contains_key-clause-reply : goal.returns-then-contains_key-clause-reply
returns-then-contains_key-clause-reply g c =
    open-busy (found c.args.going.now.entries c.args.key.now) (holds_of (book_journals c.args.books.now) c.args.key.now) c.args.events.now (sym c.contains_key.ensures ∙ c.if-contains_key.true)

pub returns-then-contains_key-clause-statuses : goal.returns-then-contains_key-clause-statuses
returns-then-contains_key-clause-statuses g c =
    at_same (statuses_of c.args.going.now.entries (book_journals c.args.books.now)) c.args.key.now (after_open c.args.events.now)
    (stays-busy (found c.args.going.now.entries c.args.key.now) (holds_of (book_journals c.args.books.now) c.args.key.now) c.args.events.now (sym c.contains_key.ensures ∙ c.if-contains_key.true))

pub unreachable-requires : goal.unreachable-requires
unreachable-requires g c =
    never-busy (found c.args.going.now.entries c.args.key.now) (holds_of (book_journals c.args.books.now) c.args.key.now) (c.requires.agree c.args.key.now) (sym c.contains_key.ensures ∙ c.if-contains_key.false) (sym c.in-Busy.is ∙ c.in-Ok.ensures.reply)

pub returns-in-Fresh-clause-reply : goal.returns-in-Fresh-clause-reply
returns-in-Fresh-clause-reply g c =
    ap (λ s. open_reply c.args.events.now (status_found None s)) (sym (state-fresh (holds_of (book_journals c.args.books.now) c.args.key.now) (sym c.in-Fresh.is ∙ c.in-Ok.ensures.reply)))
    ∙ ap (λ f. open_reply c.args.events.now (status_found f (holds_of (book_journals c.args.books.now) c.args.key.now))) (sym (none-found (found c.args.going.now.entries c.args.key.now) (sym c.contains_key.ensures ∙ c.if-contains_key.false)))

pub returns-in-Fresh-clause-statuses : goal.returns-in-Fresh-clause-statuses
returns-in-Fresh-clause-statuses g c =
    (opened-all c.args.going.now.entries c.add_transaction.new.going.entries (book_journals c.args.books.now) (book_journals c.begin_in.new.books) c.args.key.now c.args.events.now
    (none-found (found c.args.going.now.entries c.args.key.now) (sym c.contains_key.ensures ∙ c.if-contains_key.false))
    (state-fresh (holds_of (book_journals c.args.books.now) c.args.key.now) (sym c.in-Fresh.is ∙ c.in-Ok.ensures.reply))
    c.in_ok-add_transaction.ensures.found c.in-Ok.ensures.states c.requires.agree).0

pub returns-in-Fresh-clause-agree : goal.returns-in-Fresh-clause-agree
returns-in-Fresh-clause-agree g c =
    (opened-all c.args.going.now.entries c.add_transaction.new.going.entries (book_journals c.args.books.now) (book_journals c.begin_in.new.books) c.args.key.now c.args.events.now
    (none-found (found c.args.going.now.entries c.args.key.now) (sym c.contains_key.ensures ∙ c.if-contains_key.false))
    (state-fresh (holds_of (book_journals c.args.books.now) c.args.key.now) (sym c.in-Fresh.is ∙ c.in-Ok.ensures.reply))
    c.in_ok-add_transaction.ensures.found c.in-Ok.ensures.states c.requires.agree).1

pub returns-in-Kept-clause-reply : goal.returns-in-Kept-clause-reply
returns-in-Kept-clause-reply g c =
    (replayed c.args.going.now.entries c.remove-in-Kept.new.self.entries (book_journals c.args.books.now) (book_journals c.begin_in.new.books) c.args.key.now c.args.events.now c.in-Kept.reply
    (none-found (found c.args.going.now.entries c.args.key.now) (sym c.contains_key.ensures ∙ c.if-contains_key.false))
    (state-kept (holds_of (book_journals c.args.books.now) c.args.key.now) c.in-Kept.reply (sym c.in-Kept.is ∙ c.in-Ok.ensures.reply))
    (taken-back (found c.args.going.now.entries) (found c.add_transaction.new.going.entries) (found c.remove-in-Kept.new.self.entries) c.args.key.now (record { rest = c.args.events.now; told = [] })
    (none-found (found c.args.going.now.entries c.args.key.now) (sym c.contains_key.ensures ∙ c.if-contains_key.false))
    c.in_ok-add_transaction.ensures.found (found-update c.add_transaction.new.going c.remove-in-Kept.new.self c.args.key.now c.args.key.now None refl c.remove-in-Kept.ensures.updates))
    c.in-Ok.ensures.states c.requires.agree).0

pub returns-in-Kept-clause-statuses : goal.returns-in-Kept-clause-statuses
returns-in-Kept-clause-statuses g c =
    (replayed c.args.going.now.entries c.remove-in-Kept.new.self.entries (book_journals c.args.books.now) (book_journals c.begin_in.new.books) c.args.key.now c.args.events.now c.in-Kept.reply
    (none-found (found c.args.going.now.entries c.args.key.now) (sym c.contains_key.ensures ∙ c.if-contains_key.false))
    (state-kept (holds_of (book_journals c.args.books.now) c.args.key.now) c.in-Kept.reply (sym c.in-Kept.is ∙ c.in-Ok.ensures.reply))
    (taken-back (found c.args.going.now.entries) (found c.add_transaction.new.going.entries) (found c.remove-in-Kept.new.self.entries) c.args.key.now (record { rest = c.args.events.now; told = [] })
    (none-found (found c.args.going.now.entries c.args.key.now) (sym c.contains_key.ensures ∙ c.if-contains_key.false))
    c.in_ok-add_transaction.ensures.found (found-update c.add_transaction.new.going c.remove-in-Kept.new.self c.args.key.now c.args.key.now None refl c.remove-in-Kept.ensures.updates))
    c.in-Ok.ensures.states c.requires.agree).1

pub returns-in-Kept-clause-agree : goal.returns-in-Kept-clause-agree
returns-in-Kept-clause-agree g c =
    (replayed c.args.going.now.entries c.remove-in-Kept.new.self.entries (book_journals c.args.books.now) (book_journals c.begin_in.new.books) c.args.key.now c.args.events.now c.in-Kept.reply
    (none-found (found c.args.going.now.entries c.args.key.now) (sym c.contains_key.ensures ∙ c.if-contains_key.false))
    (state-kept (holds_of (book_journals c.args.books.now) c.args.key.now) c.in-Kept.reply (sym c.in-Kept.is ∙ c.in-Ok.ensures.reply))
    (taken-back (found c.args.going.now.entries) (found c.add_transaction.new.going.entries) (found c.remove-in-Kept.new.self.entries) c.args.key.now (record { rest = c.args.events.now; told = [] })
    (none-found (found c.args.going.now.entries c.args.key.now) (sym c.contains_key.ensures ∙ c.if-contains_key.false))
    c.in_ok-add_transaction.ensures.found (found-update c.add_transaction.new.going c.remove-in-Kept.new.self c.args.key.now c.args.key.now None refl c.remove-in-Kept.ensures.updates))
    c.in-Ok.ensures.states c.requires.agree).2

pub returns-in-Err-clause-err : goal.returns-in-Err-clause-err
returns-in-Err-clause-err g c =
    (refused-all c.args.going.now.entries c.remove.new.self.entries (book_journals c.args.books.now) (book_journals c.begin_in.new.books)
    (taken-back (found c.args.going.now.entries) (found c.add_transaction.new.going.entries) (found c.remove.new.self.entries) c.args.key.now (record { rest = c.args.events.now; told = [] })
    (none-found (found c.args.going.now.entries c.args.key.now) (sym c.contains_key.ensures ∙ c.if-contains_key.false))
    c.in_ok-add_transaction.ensures.found (found-update c.add_transaction.new.going c.remove.new.self c.args.key.now c.args.key.now None refl c.remove.ensures.updates))
    c.in-Err.ensures.err c.requires.agree).0

pub returns-in-Err-clause-agree : goal.returns-in-Err-clause-agree
returns-in-Err-clause-agree g c =
    (refused-all c.args.going.now.entries c.remove.new.self.entries (book_journals c.args.books.now) (book_journals c.begin_in.new.books)
    (taken-back (found c.args.going.now.entries) (found c.add_transaction.new.going.entries) (found c.remove.new.self.entries) c.args.key.now (record { rest = c.args.events.now; told = [] })
    (none-found (found c.args.going.now.entries c.args.key.now) (sym c.contains_key.ensures ∙ c.if-contains_key.false))
    c.in_ok-add_transaction.ensures.found (found-update c.add_transaction.new.going c.remove.new.self c.args.key.now c.args.key.now None refl c.remove.ensures.updates))
    c.in-Err.ensures.err c.requires.agree).1
