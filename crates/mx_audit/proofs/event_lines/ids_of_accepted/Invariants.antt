use Rattle.std.proofs.Common.{◌≡◌, ◌++◌, map, filter, drop}
use Rattle.mx_graph.specs.Record.{row}
use Rattle.mx_receipt.specs.Receipt.{is_accepted, kept_at, rows_of}
use Rattle.mx_audit.proofs.event_lines.ids_of_accepted.Given as goal

-- the ids so far, with those of the numbers that are left, are all
abbrev pub invariant-loop-number : goal.invariant-loop-number
invariant-loop-number l =
    l.ids.items ++ map (λ p. (row (rows_of l.timeline.kept) p).id) (filter (λ p. is_accepted (kept_at l.timeline.kept p).verdict) (drop l.number-index l.numbers))
    ≡ map (λ p. (row (rows_of l.timeline.kept) p).id) (filter (λ p. is_accepted (kept_at l.timeline.kept p).verdict) l.numbers)
