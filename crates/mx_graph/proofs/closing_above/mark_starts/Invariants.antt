use Rattle.std.proofs.Common.{◌≡◌, ◌+◌, ◌&&◌, ◌||◌, ℕ, length, nat_lt, slice_index_or, false, take}
use Rattle.std.specs.List.{list_any}
use Rattle.mx_graph.specs.Edges.{cited}
use Rattle.mx_graph.specs.Record.{is_in}
use Rattle.mx_graph.proofs.closing_above.mark_starts.Given as goal

-- those so far
abbrev pub invariant-loop-start : goal.invariant-loop-start
invariant-loop-start l = record {
  len : length l.marks ≡ length l.fn.marks;
  marked : (q : ℕ) → slice_index_or l.marks q false ≡ (slice_index_or l.fn.marks q false || (nat_lt q (length l.fn.marks) && list_any (λ s. is_in (cited l.edges s) (l.least + q)) (take l.start-index l.starts)));
}
