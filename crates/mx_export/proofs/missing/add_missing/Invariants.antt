use Rattle.std.proofs.Common.{◌≡◌, ◌&&◌, ◌||◌, ℕ, List, not, take}
use Rattle.std.specs.BTreeSet.{contains}
use Rattle.std.specs.Cmp.Lexicographic.{slice_cmp}
use Rattle.std.specs.List.{list_any}
use Rattle.std.specs.Ordering.{nat_cmp}
use Rattle.mx_redact.specs.Redaction.{is_among}
use Rattle.mx_export.specs.RoomEvents.{has_id}
use Rattle.mx_export.proofs.missing.add_missing.Given as goal

abbrev pub invariant-loop-id : goal.invariant-loop-id
invariant-loop-id l = record {
  lacks : l.lacks ≡ list_any (λ id. not (has_id l.collected.events.items id)) (take l.id-index l.cited);
  ids : (id : List ℕ) → contains (slice_cmp nat_cmp) l.ids id ≡ (contains (slice_cmp nat_cmp) l.fn.ids id || (is_among (take l.id-index l.cited) id && not (has_id l.collected.events.items id)));
}
