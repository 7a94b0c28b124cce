use Rattle.std.proofs.Common.{◌≡◌, ◌+◌, length, drop, take, map}
use Rattle.std.specs.Vec.Iter.{into_iter_items, into_iter_len}
use Rattle.mx_server_tests.proofs.callers.callers_of.Given as goal

-- the callers so far have the first seats, in their order
abbrev pub invariant-loop-seat : goal.invariant-loop-seat
invariant-loop-seat l = record {
  made : map (λ c. c.seat) l.callers.items ≡ take (length l.callers.items) l.fn.seats.items;
  long : length l.callers.items + into_iter_len l.seat-iterator ≡ length l.fn.seats.items;
  left : into_iter_items l.seat-iterator ≡ drop (length l.callers.items) l.fn.seats.items;
}
