use Rattle.mx_shard.proofs.RoomLemmas.{distinct_of}
use Rattle.mx_shard.proofs.asking.answer_among.Goals as goal

pub shown_in-requires-clause-distinct : goal.shown_in-requires-clause-distinct
shown_in-requires-clause-distinct c = distinct_of c.args.numbers.now c.args.rooms.now c.requires.numbered
