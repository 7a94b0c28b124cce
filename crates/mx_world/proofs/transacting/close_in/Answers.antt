use Rattle.std.proofs.Common.{◌≡◌, ◌∙◌, sym, ap, subst, refl, arith, None}
use Rattle.mx_world.specs.Replies.{close_reply, body_of}
use Rattle.mx_world.specs.Moves.{after_close}
use Rattle.mx_world.specs.Worlds.{book_journals, holds_of, found, status_found, statuses_of}
use Rattle.mx_world.proofs.StatusLemmas.{at_same, agrees-begun, close-none, after-close-none, close-more, after-close-more, close-all, closed-all, found-update}
use Rattle.mx_world.specs.Crashes.{BooksLeave, close_entry}
use Rattle.mx_world.proofs.CrashLemmas.{books-refused, close-entry}
use Rattle.mx_world.proofs.transacting.close_in.Goals as goal

pub returns-in_default-clause-reply : goal.returns-in_default-clause-reply
returns-in_default-clause-reply g c = close-none (holds_of (book_journals c.args.books.now) c.args.key.now) ∙ ap (λ f. close_reply (status_found f (holds_of (book_journals c.args.books.now) c.args.key.now))) c.in_default.ensures.value

pub returns-in_default-clause-statuses : goal.returns-in_default-clause-statuses
returns-in_default-clause-statuses g c =
    at_same (statuses_of c.args.going.now.entries (book_journals c.args.books.now)) c.args.key.now after_close
    (ap (λ f. after_close (status_found f (holds_of (book_journals c.args.books.now) c.args.key.now))) (sym c.in_default.ensures.value) ∙ after-close-none (holds_of (book_journals c.args.books.now) c.args.key.now) ∙ ap (λ f. status_found f (holds_of (book_journals c.args.books.now) c.args.key.now)) c.in_default.ensures.value)

pub returns-then-left-gt0-clause-reply : goal.returns-then-left-gt0-clause-reply
returns-then-left-gt0-clause-reply g c =
    close-more c.in-Some.transaction.now.rest c.in-Some.transaction.now.told c.left-left.result c.left-left.ensures c.if-left-gt0.true ∙ ap (λ f. close_reply (status_found f (holds_of (book_journals c.args.books.now) c.args.key.now))) c.in-Some.ensures.value

pub returns-then-left-gt0-clause-statuses : goal.returns-then-left-gt0-clause-statuses
returns-then-left-gt0-clause-statuses g c =
    at_same (statuses_of c.args.going.now.entries (book_journals c.args.books.now)) c.args.key.now after_close
    (ap (λ f. after_close (status_found f (holds_of (book_journals c.args.books.now) c.args.key.now))) (sym c.in-Some.ensures.value) ∙ after-close-more c.in-Some.transaction.now.rest c.in-Some.transaction.now.told c.left-left.result c.left-left.ensures c.if-left-gt0.true
    ∙ ap (λ f. status_found f (holds_of (book_journals c.args.books.now) c.args.key.now)) c.in-Some.ensures.value)

pub keep_in-requires : goal.keep_in-requires
keep_in-requires g c = record {
  placed = c.requires.placed;
  begun = agrees-begun c.in-Some.transaction.now (found c.args.going.now.entries c.args.key.now) (holds_of (book_journals c.args.books.now) c.args.key.now) (sym c.in-Some.ensures.value) (c.requires.agree c.args.key.now);
}

pub returns-clause-reply : goal.returns-clause-reply
returns-clause-reply g c =
    close-all c.in-Some.transaction.now.rest c.in-Some.transaction.now.told c.left-left.result c.in_ok-reply.reply c.left-left.ensures
    (let none : c.left-left.result ≡ 0 = omega arith in none) (c.in_ok-reply.ensures ∙ ap body_of c.told.ensures) ∙ ap (λ f. close_reply (status_found f (holds_of (book_journals c.args.books.now) c.args.key.now))) c.in-Some.ensures.value

pub returns-clause-statuses : goal.returns-clause-statuses
returns-clause-statuses g c =
    (closed-all c.args.going.now.entries c.remove.new.self.entries (book_journals c.args.books.now) (book_journals c.keep_in.new.books) c.args.key.now c.in-Some.transaction.now c.left-left.result c.in_ok-kept.kept (sym c.in-Some.ensures.value) c.left-left.ensures
    (let none : c.left-left.result ≡ 0 = omega arith in none) (c.in_ok-kept.ensures.cases ∙ c.in_ok-reply.ensures ∙ ap body_of c.told.ensures)
    (found-update c.args.going.now c.remove.new.self c.args.key.now c.args.key.now None refl c.remove.ensures.updates) c.in_ok-keep_in.ensures.states c.requires.agree).0

pub returns-clause-agree : goal.returns-clause-agree
returns-clause-agree g c =
    (closed-all c.args.going.now.entries c.remove.new.self.entries (book_journals c.args.books.now) (book_journals c.keep_in.new.books) c.args.key.now c.in-Some.transaction.now c.left-left.result c.in_ok-kept.kept (sym c.in-Some.ensures.value) c.left-left.ensures
    (let none : c.left-left.result ≡ 0 = omega arith in none) (c.in_ok-kept.ensures.cases ∙ c.in_ok-reply.ensures ∙ ap body_of c.told.ensures)
    (found-update c.args.going.now c.remove.new.self c.args.key.now c.args.key.now None refl c.remove.ensures.updates) c.in_ok-keep_in.ensures.states c.requires.agree).1

pub returns-in_err-keep_in-clause-crash : goal.returns-in_err-keep_in-clause-crash
returns-in_err-keep_in-clause-crash g c =
    books-refused g.L.Keeper.is_honest g.L.Keeper.may_leave c.from_residual-in_err-keep_in.result c.in_err-keep_in.field-0.0 (close_entry c.args.key.now (statuses_of c.args.going.now.entries (book_journals c.args.books.now) c.args.key.now))
    c.args.books.now c.keep_in.new.books c.from_residual-in_err-keep_in.ensures.1
    (subst (λ tried. BooksLeave g.L.Keeper.is_honest g.L.Keeper.may_leave tried c.args.books.now c.keep_in.new.books)
    (close-entry c.args.key.now c.in-Some.transaction.now.rest c.in-Some.transaction.now.told c.left-left.result c.in_ok-kept.kept c.left-left.ensures
    (let none : c.left-left.result ≡ 0 = omega arith in none) (c.in_ok-kept.ensures.cases ∙ c.in_ok-reply.ensures ∙ ap body_of c.told.ensures)
    ∙ ap (λ f. close_entry c.args.key.now (status_found f (holds_of (book_journals c.args.books.now) c.args.key.now))) c.in-Some.ensures.value)
    c.in_err-keep_in.ensures.crash)
