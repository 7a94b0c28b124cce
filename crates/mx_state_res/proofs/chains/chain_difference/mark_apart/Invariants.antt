use Rattle.std.proofs.Common.{◌≡◌, ◌<◌, ◌||◌, ◌⊎◌, ℕ, [], true, IsTrue, length, map, slice_index_or}
use Rattle.std.specs.List.{All}
use Rattle.mx_state_res.specs.ChainDifference.{cites, is_cited}
use Rattle.mx_state_res.specs.EventMasks.{is_cited_for}
use Rattle.mx_state_res.specs.Masks.{waits, is_there, AreKept}
use Rattle.mx_state_res.proofs.EventMaskLemmas.{IsMasked}
use Rattle.mx_state_res.proofs.chains.chain_difference.mark_apart.Given as goal

-- what waits, with what the events that are left cite
abbrev pub invariant-loop-event : goal.invariant-loop-event
invariant-loop-event l = record {
  states : l.walk.states ≡ l.fn.walk.states;
  starts : l.walk.starts ≡ l.fn.walk.starts;
  kept : AreKept l.walk.states l.walk.masks l.walk.unsettled;
  masked : All (IsMasked (length l.graph) l.fn.walk.states) l.event-iterator;
  known : (p : ℕ) → is_there l.walk.masks p ≡ true → IsTrue (is_there l.fn.walk.masks p) ⊎ (p < length l.graph);
  marked : (p i : ℕ) → (waits l.walk.masks p i || is_cited_for (cites l.graph) l.event-iterator p i) ≡ (waits l.fn.walk.masks p i || is_cited l.graph (slice_index_or (map (λ others. others.items) l.apart) i []) p);
}
