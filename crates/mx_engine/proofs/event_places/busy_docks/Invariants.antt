use Rattle.std.proofs.Common.{◌≡◌, length, take}
use Rattle.mx_engine.proofs.ToldLemmas.{AreIdle}
use Rattle.mx_engine.proofs.event_places.busy_docks.Given as goal

abbrev pub invariant-loop-offered : goal.invariant-loop-offered
invariant-loop-offered l = record {
  long : length l.busy ≡ 64;
  idle : AreIdle l.fn.count (take l.offered-index l.fn.events) l.busy;
}
