use Rattle.std.proofs.Common.{subst}
use Rattle.std.specs.Str.{chars}
use Rattle.mx_canon.specs.Canonical.{canonical_text}
use Rattle.mx_log.proofs.OutputLemmas.{around}
use Rattle.mx_log.proofs.answers.step_texts.write_body.Goals as goal

pub returns : goal.returns
unfolding canonical_text chars
returns g c = λ taken had.
    let all = c.put-3.ensures _ (c.put-2.ensures _ (c.write_key.ensures _ (c.put.ensures taken had))) in
    subst (g.S.TextSink.has_taken c.put-3.new.self) (around taken c.args.key.now c.args.body.now) all
