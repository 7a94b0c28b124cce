use Rattle.std.proofs.Common.{sym}
use Rattle.mx_lines.proofs.ScanLemmas.{left-next, left-found}
use Rattle.mx_lines.proofs.scanning.content_in.Goals as goal

pub returns-then-starts_with : goal.returns-then-starts_with
returns-then-starts_with c = λ ms is. left-found ms _ _ (c.loop.invariant ms is) (sym c.if-starts_with.ensures.value) c.content_at.ensures

pub loop-preserved : goal.loop-preserved
loop-preserved c = λ ms is.
    let (b, found) = c.in_ok-rest.ensures in
    left-next ms _ _ b (c.loop.invariant ms is) (sym c.if-starts_with.ensures.value) found
