use Rattle.std.proofs.Common.{◌≡◌, ℕ, ◌<◌}
use Rattle.mx_dock.specs.Journal.{IsPrefix}
use Rattle.mx_engine.specs.Views.{view_at, AddsNothing}
use Rattle.mx_engine.specs.Berths.{AreBerthsAt, caller_of, views_of}
use Rattle.mx_engine.proofs.meeting.meet_each.Given as goal

-- at each dock so far they have met
abbrev pub invariant-loop-number : goal.invariant-loop-number
invariant-loop-number g l = record {
  first : AreBerthsAt l.fn.docks (caller_of l.fn.first.items) l.first.items;
  second : AreBerthsAt l.fn.docks (caller_of l.fn.second.items) l.second.items;
  nothing : AddsNothing (views_of l.fn.first.items) (views_of l.first.items);
  told : (n : ℕ) → n < l.number
      → IsPrefix (view_at (views_of l.fn.second.items) n).seen (view_at (views_of l.first.items) n).seen;
  stays : views_of l.second.items ≡ views_of l.fn.second.items;
}
