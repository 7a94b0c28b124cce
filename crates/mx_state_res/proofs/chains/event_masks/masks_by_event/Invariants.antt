use Rattle.std.proofs.Common.{◌≡◌, ◌<◌, ◌≤◌, ℕ, [], false, length, map, slice_index_or, take}
use Rattle.mx_graph.specs.Record.{is_in}
use Rattle.mx_state_res.specs.Masks.{is_there}
use Rattle.mx_state_res.specs.EventMasks.{is_had, is_in_one, AreWide}
use Rattle.mx_state_res.proofs.chains.event_masks.masks_by_event.Given as goal

-- the events of the sets below i are gathered, for these sets
abbrev pub invariant-loop-i : goal.invariant-loop-i
invariant-loop-i l = record {
  sets : l.gathered.sets ≡ length l.sets;
  wide : AreWide l.gathered.sets l.gathered.masks;
  there : (p : ℕ) → is_there l.gathered.masks p ≡ is_in_one (take l.i (map (λ events. events.items) l.sets)) p;
  below : (p j : ℕ) → j < l.i → is_had l.gathered.masks p j ≡ is_in (slice_index_or (map (λ events. events.items) l.sets) j []) p;
  others : (p j : ℕ) → l.i ≤ j → is_had l.gathered.masks p j ≡ false;
}
