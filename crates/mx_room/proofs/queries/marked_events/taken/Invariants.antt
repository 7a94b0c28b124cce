use Rattle.std.proofs.Common.{◌≡◌, ◌<◌, filter, length}
use Rattle.std.specs.List.{All, range_with_len}
use Rattle.mx_receipt.specs.Receipt.{rows_of}
use Rattle.mx_room.specs.Answers.{is_taken}
use Rattle.mx_room.proofs.queries.marked_events.taken.Given as goal

-- those so far
abbrev pub invariant-loop-place : goal.invariant-loop-place
invariant-loop-place l = record {
  so_far : l.found.items ≡ filter (is_taken (rows_of l.timeline.kept) l.marks l.min_depth) (range_with_len 0 l.place);
  below : All (λ event. event < length l.timeline.kept) l.found.items;
}
