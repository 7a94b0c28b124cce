use Rattle.std.proofs.Common.{length}
use Rattle.mx_event_reading.specs.BodiesRead.{AreOffered}
use Rattle.mx_event_reading.proofs.EventsLemmas.{EventsSoFar}
use Rattle.mx_event_reading.proofs.objects.read_items.Given as goal

-- the events so far
abbrev pub invariant-items : goal.invariant-items
invariant-items g l =
    EventsSoFar l.initial.reader l.reader l.events.items
    × AreOffered (g.V.Verifier.judges l.fn.verifier) l.events.items

abbrev pub decreases-items : goal.decreases-items
decreases-items g l = length l.reader
