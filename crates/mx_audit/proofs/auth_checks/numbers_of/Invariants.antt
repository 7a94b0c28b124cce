use Rattle.std.proofs.Common.{◌≡◌, ◌<◌, ◌++◌, filter_map, length, drop}
use Rattle.std.specs.List.{All}
use Rattle.mx_graph.specs.Record.{place_of}
use Rattle.mx_receipt.specs.Receipt.{rows_of}
use Rattle.mx_audit.proofs.auth_checks.numbers_of.Given as goal

-- the numbers so far, with those of the ids that are left, are all
abbrev pub invariant-loop-id : goal.invariant-loop-id
invariant-loop-id l = record {
  so_far : l.numbers.items ++ filter_map (place_of (rows_of l.earlier)) (drop l.id-index l.ids) ≡ filter_map (place_of (rows_of l.earlier)) l.ids;
  known : All (λ number. number < length l.earlier) l.numbers.items;
}
