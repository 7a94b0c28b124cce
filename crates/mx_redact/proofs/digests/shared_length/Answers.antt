use Rattle.std.proofs.Common.{arith}
use Rattle.mx_redact.proofs.PrefixLemmas.{alike-further}
use Rattle.mx_redact.proofs.digests.shared_length.Goals as goal

pub loop-preserved : goal.loop-preserved
loop-preserved c =
    let i = c.loop.invariant in
    (omega (arith, i.0), i.1, i.2, alike-further c.args.a.now c.args.b.now c.loop.shared 64 c.ne.result c.ne.ensures c.if-ne.false i.3)
