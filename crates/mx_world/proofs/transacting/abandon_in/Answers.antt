use Rattle.std.proofs.Common.{◌∙◌, sym, refl, None}
use Rattle.mx_world.specs.Moves.{after_abandon}
use Rattle.mx_world.specs.Worlds.{book_journals, holds_of, found, statuses_of}
use Rattle.mx_world.proofs.StatusLemmas.{at_same, begun-open, abandon-none, abandoned-all, found-update}
use Rattle.mx_world.proofs.transacting.abandon_in.Goals as goal

pub give_up_in-requires : goal.give_up_in-requires
give_up_in-requires g c = record {
  placed = c.requires.placed;
  begun = begun-open (found c.args.going.now.entries c.args.key.now) (holds_of (book_journals c.args.books.now) c.args.key.now) (sym c.contains_key.ensures ∙ c.if-contains_key.true) (c.requires.agree c.args.key.now);
}

pub returns-then-contains_key-clause-statuses : goal.returns-then-contains_key-clause-statuses
returns-then-contains_key-clause-statuses g c =
    (abandoned-all c.args.going.now.entries c.remove.new.self.entries (book_journals c.args.books.now) (book_journals c.give_up_in.new.books) c.args.key.now (sym c.contains_key.ensures ∙ c.if-contains_key.true)
    (found-update c.args.going.now c.remove.new.self c.args.key.now c.args.key.now None refl c.remove.ensures.updates) c.give_up_in.ensures.states c.requires.agree).0

pub returns-then-contains_key-clause-agree : goal.returns-then-contains_key-clause-agree
returns-then-contains_key-clause-agree g c =
    (abandoned-all c.args.going.now.entries c.remove.new.self.entries (book_journals c.args.books.now) (book_journals c.give_up_in.new.books) c.args.key.now (sym c.contains_key.ensures ∙ c.if-contains_key.true)
    (found-update c.args.going.now c.remove.new.self c.args.key.now c.args.key.now None refl c.remove.ensures.updates) c.give_up_in.ensures.states c.requires.agree).1

pub returns-else-contains_key-clause-statuses : goal.returns-else-contains_key-clause-statuses
returns-else-contains_key-clause-statuses g c =
    at_same (statuses_of c.args.going.now.entries (book_journals c.args.books.now)) c.args.key.now after_abandon
    (abandon-none (found c.args.going.now.entries c.args.key.now) (holds_of (book_journals c.args.books.now) c.args.key.now) (sym c.contains_key.ensures ∙ c.if-contains_key.false))
