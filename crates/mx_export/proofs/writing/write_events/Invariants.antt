use Rattle.std.proofs.Common.{◌≡◌, ◌++◌, drop, map}
use Rattle.std.specs.List.{join_with_byte}
use Rattle.mx_canon.specs.Canonical.{canonical_text}
use Rattle.mx_canon.proofs.PieceLemmas.{left}
use Rattle.mx_export.proofs.writing.write_events.Given as goal

-- what is written, with what is left, is the whole
abbrev pub invariant-loop-event : goal.invariant-loop-event
invariant-loop-event l =
    l.out.items ++ left l.later (map canonical_text (drop l.event-index l.events)) ≡ l.fn.out.items ++ join_with_byte 44 (map canonical_text l.events)
