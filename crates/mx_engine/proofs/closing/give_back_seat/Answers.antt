use Rattle.mx_engine.proofs.closing.give_back_seat.Goals as goal

pub give_back-requires-clause-first : goal.give_back-requires-clause-first
give_back-requires-clause-first g c = c.requires.first_shards

pub give_back-requires-clause-other : goal.give_back-requires-clause-other
give_back-requires-clause-other g c = (c.args.other.number, c.requires.shards)

pub give_back-requires-2-clause-first : goal.give_back-requires-2-clause-first
give_back-requires-2-clause-first g c = c.requires.first_books

pub give_back-requires-2-clause-other : goal.give_back-requires-2-clause-other
give_back-requires-2-clause-other g c = (c.args.other.number, c.requires.books)
