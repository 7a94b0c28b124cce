use Rattle.std.proofs.Common.{◌≡◌, ℕ, true, drop, flat_map}
use Rattle.mx_graph.specs.Record.{is_in}
use Rattle.mx_state_res.specs.ChainDifference.{cites}
use Rattle.mx_state_res.proofs.NextCitedLemmas.{is_found}
use Rattle.mx_state_res.proofs.conflicts.cited_events.all_cited.Given as goal

-- what is cited so far, with what the events that are left cite, is all, and has what the last one cites
abbrev pub invariant-loop-event : goal.invariant-loop-event
invariant-loop-event l = record {
  all : (p : ℕ) → is_found (cites l.graph) l.cited.items (drop l.event-index l.events) p ≡ is_in (flat_map (cites l.graph) l.events) p;
  had : (p : ℕ) → is_in l.last p ≡ true → is_in l.cited.items p ≡ true;
}
