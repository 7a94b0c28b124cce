use Rattle.std.proofs.Common.{◌≡◌, ◌++◌, List, ℕ, drop}
use Rattle.std.specs.List.{join_with_byte}
use Rattle.mx_canon.specs.Canonical.{item_texts}
use Rattle.mx_canon.proofs.PieceLemmas.{left}
use Rattle.mx_requests.specs.ReplyBodies.{event_items}
use Rattle.mx_requests.proofs.replies.pieces.write_events.Given as goal

abbrev pub invariant-loop-event : goal.invariant-loop-event
invariant-loop-event g l =
    (taken : List ℕ) → g.S.TextSink.has_taken l.initial.sink taken
    → (out : List ℕ) × g.S.TextSink.has_taken l.sink out
    × (out ++ left l.later (item_texts (event_items (drop l.event-index l.events))) ≡ taken ++ join_with_byte 44 (item_texts (event_items l.events)))
