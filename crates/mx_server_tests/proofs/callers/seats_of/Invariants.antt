use Rattle.std.proofs.Common.{◌≡◌, ◌+◌, length, drop, take, map}
use Rattle.std.specs.Vec.Iter.{into_iter_items, into_iter_len}
use Rattle.mx_server_tests.proofs.callers.seats_of.Given as goal

-- the seats so far are those of the first callers, in their order
abbrev pub invariant-loop-caller : goal.invariant-loop-caller
invariant-loop-caller l = record {
  made : l.seats.items ≡ map (λ caller. caller.seat) (take (length l.seats.items) l.fn.callers.items);
  long : length l.seats.items + into_iter_len l.caller-iterator ≡ length l.fn.callers.items;
  left : into_iter_items l.caller-iterator ≡ drop (length l.seats.items) l.fn.callers.items;
}
