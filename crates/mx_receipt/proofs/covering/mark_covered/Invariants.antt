use Rattle.std.proofs.Common.{◌≡◌, ◌||◌, ℕ, take}
use Rattle.mx_graph.specs.Record.{is_in}
use Rattle.mx_receipt.specs.Judgements.{is_marked, unmarked}
use Rattle.mx_receipt.proofs.covering.mark_covered.Given as goal

-- those so far are marked
abbrev pub invariant-loop-event : goal.invariant-loop-event
invariant-loop-event l = record {
  stay : unmarked l.judgements.items ≡ unmarked l.fn.judgements.items;
  marked : (p : ℕ) → is_marked l.judgements.items p ≡ (is_marked l.fn.judgements.items p || is_in (take l.event-index l.covered) p);
}
