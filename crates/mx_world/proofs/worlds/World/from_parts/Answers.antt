use Rattle.mx_world.proofs.PartLemmas.{none-agrees}
use Rattle.mx_world.proofs.worlds.World.from_parts.Goals as goal

pub invariant_of-result : goal.invariant_of-result
invariant_of-result g c = record {
  shards_placed = c.requires.shards;
  books_placed = c.requires.books;
  agree = none-agrees c.args.books.items c.new.result.entries c.requires.books c.requires.ended c.new.ensures.empty;
}
