use Rattle.std.proofs.Common.{sym}
use Rattle.mx_engine.proofs.closing.close_dock.Goals as goal

pub returns-clause-whole : goal.returns-clause-whole
returns-clause-whole g c =
    let e = c.close-docked.ensures in
    let s = c.soundness.ensures in
    rw c.out_of_box.ensures
    (rw (sym s.journal) (record {
      opened = e.opening;
      same = e.same_opening;
      numbered = e.numbered;
      added = e.added;
      seen = e.seen;
    }))
