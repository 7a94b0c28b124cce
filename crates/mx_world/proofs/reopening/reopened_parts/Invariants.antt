use Rattle.std.proofs.Common.{◌≡◌, ◌+◌, length, drop}
use Rattle.std.specs.Vec.Iter.{into_iter_items, into_iter_len}
use Rattle.mx_world.proofs.MakingLemmas.{AreNumbered}
use Rattle.mx_world.proofs.ReopeningLemmas.{AreOverFirst}
use Rattle.mx_world.proofs.reopening.reopened_parts.Given as goal

-- each so far stands at its place over its keeper, and there is one for each keeper that is taken
abbrev pub invariant-loop-keeper : goal.invariant-loop-keeper
invariant-loop-keeper g l = record {
  each : AreNumbered l.parts.items g.P.Part.place_of l.count;
  over : AreOverFirst g.P.Part.is_over l.fn.keepers.items l.parts.items;
  long : length l.parts.items + into_iter_len l.keeper-iterator ≡ l.count;
  left : into_iter_items l.keeper-iterator ≡ drop (length l.parts.items) l.fn.keepers.items;
  all : l.count ≡ length l.fn.keepers.items;
}
