use Rattle.std.proofs.Common.{◌≡◌, ◌&&◌, ℕ, length, not, take}
use Rattle.mx_graph.specs.Record.{is_in}
use Rattle.mx_room.specs.Answers.{is_marked}
use Rattle.mx_room.proofs.queries.marked_events.EventMarks.unmark.Given as goal

-- those so far
abbrev pub invariant-loop-event : goal.invariant-loop-event
invariant-loop-event l = record {
  len : length l.self ≡ length l.fn.self;
  marked : (p : ℕ) → is_marked l.self p ≡ (is_marked l.fn.self p && not (is_in (take l.event-index l.events) p));
}
