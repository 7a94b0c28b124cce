use Rattle.std.proofs.Common.{◌≡◌, ◌≤◌, ◌&&◌, ℕ, List, length, not, take}
use Rattle.std.specs.BTreeSet.{contains}
use Rattle.std.specs.Cmp.Lexicographic.{slice_cmp}
use Rattle.std.specs.List.{list_any}
use Rattle.std.specs.Ordering.{nat_cmp}
use Rattle.std.specs.Prelude.{filter}
use Rattle.mx_redact.specs.Redaction.{is_among}
use Rattle.mx_export.specs.RoomEvents.{cited_ids, has_id, lacks_one}
use Rattle.mx_export.proofs.missing.missing_events.Given as goal

abbrev pub invariant-loop-place : goal.invariant-loop-place
invariant-loop-place l = record {
  few : l.citing ≤ l.place;
  citing : l.citing ≡ length (filter (lacks_one l.collected.events.items) (take l.place l.collected.events.items));
  ids : (id : List ℕ) → contains (slice_cmp nat_cmp) l.ids id ≡ (list_any (λ e. is_among (cited_ids e) id) (take l.place l.collected.events.items) && not (has_id l.collected.events.items id));
}
