use Rattle.mx_engine.proofs.opening.next_seat.Goals as goal

pub next_berths-requires : goal.next_berths-requires
next_berths-requires g c = c.requires.shards

pub next_berths-requires-2 : goal.next_berths-requires-2
next_berths-requires-2 g c = c.requires.books
