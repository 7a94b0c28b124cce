use Rattle.std.proofs.Common.{◌≡◌, ◌<◌, ℕ, length, filter_map}
use Rattle.std.specs.BTreeMap.{get}
use Rattle.std.specs.Cmp.Lexicographic.{slice_cmp}
use Rattle.std.specs.Ordering.{nat_cmp}
use Rattle.mx_export.specs.Arranging.{listed}
use Rattle.mx_export.specs.Collecting.{event_at}
use Rattle.mx_export.specs.RoomEvents.{cited_ids}
use Rattle.mx_export.proofs.collecting.cited_places.Given as goal

abbrev pub invariant-loop-event : goal.invariant-loop-event
invariant-loop-event l = record {
  len : length l.cited.items ≡ l.event-index;
  so_far : (p : ℕ) → p < l.event-index → listed l.cited.items p ≡ filter_map (get (slice_cmp nat_cmp) l.collected.places) (cited_ids (event_at l.collected.events.items p));
}
