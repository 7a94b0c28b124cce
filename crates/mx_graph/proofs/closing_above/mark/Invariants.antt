use Rattle.std.proofs.Common.{◌≡◌, ◌+◌, ◌&&◌, ◌||◌, ℕ, length, nat_lt, slice_index_or, false, take}
use Rattle.mx_graph.specs.Record.{is_in}
use Rattle.mx_graph.proofs.closing_above.mark.Given as goal

-- those so far
abbrev pub invariant-loop-event : goal.invariant-loop-event
invariant-loop-event l = record {
  len : length l.marks ≡ length l.fn.marks;
  marked : (q : ℕ) → slice_index_or l.marks q false ≡ (slice_index_or l.fn.marks q false || (nat_lt q (length l.fn.marks) && is_in (take l.event-index l.events) (l.least + q)));
}
