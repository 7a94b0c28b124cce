use Rattle.std.proofs.Common.{◌≡◌, ◌==◌, ◌||◌, ◌&&◌, ℕ, take}
use Rattle.mx_graph.specs.Record.{is_in}
use Rattle.mx_state_res.specs.Masks.{is_there}
use Rattle.mx_state_res.specs.EventMasks.{is_had, AreWide}
use Rattle.mx_state_res.proofs.chains.event_masks.EventMasks.add_all.Given as goal

abbrev pub invariant-loop-event : goal.invariant-loop-event
invariant-loop-event l = record {
  sets : l.self.sets ≡ l.fn.self.sets;
  wide : AreWide l.self.sets l.self.masks;
  there : (p : ℕ) → is_there l.self.masks p ≡ (is_there l.fn.self.masks p || is_in (take l.event-index l.events) p);
  had : (p i : ℕ) → is_had l.self.masks p i ≡ (is_had l.fn.self.masks p i || (is_in (take l.event-index l.events) p && (l.set == i)));
}
