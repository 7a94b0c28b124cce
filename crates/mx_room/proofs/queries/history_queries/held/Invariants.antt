use Rattle.std.proofs.Common.{◌≡◌, ◌<◌, ◌++◌, filter_map, length, drop}
use Rattle.std.specs.List.{All}
use Rattle.mx_graph.specs.Record.{place_of}
use Rattle.mx_receipt.specs.Receipt.{rows_of}
use Rattle.mx_room.proofs.queries.history_queries.held.Given as goal

-- the numbers so far, with those of the ids that are left, are all
abbrev pub invariant-loop-id : goal.invariant-loop-id
invariant-loop-id l = record {
  so_far : l.numbers.items ++ filter_map (place_of (rows_of l.timeline.kept)) (drop l.id-index l.ids) ≡ filter_map (place_of (rows_of l.timeline.kept)) l.ids;
  below : All (λ number. number < length l.timeline.kept) l.numbers.items;
}
