use Rattle.std.proofs.Common.{◌≡◌, ◌++◌}
use Rattle.std.specs.List.{flat_map, range_with_len}
use Rattle.mx_canon.specs.Canonical.{string_text}
use Rattle.mx_export.specs.RoomLogs.{number_of, part, transaction_text}
use Rattle.mx_export.proofs.writing.write_transactions.Given as goal

abbrev pub invariant-loop-index : goal.invariant-loop-index
invariant-loop-index l =
    l.out.items
    ≡ l.fn.out.items ++ flat_map (λ k. transaction_text (string_text l.origin) (string_text (number_of l.room k)) (part k l.events)) (range_with_len 0 l.index)
