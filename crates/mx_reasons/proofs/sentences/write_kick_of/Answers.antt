use Rattle.std.proofs.Common.{◌++◌, codes, subst, ◌∙◌, append_assoc}
use Rattle.std.specs.Str.{chars}
use Rattle.mx_levels.specs.Level.{kick_level}
use Rattle.mx_auth.specs.Rules.{target_of}
use Rattle.mx_reasons.specs.Because.{asks_for, has_level}
use Rattle.mx_reasons.proofs.sentences.write_kick_of.Goals as goal

pub returns : goal.returns
unfolding chars
returns g c = λ taken had.
    let j = c.args.judged.now in
    let asks = asks_for (codes "kick") (kick_level j.sources.power) in
    let target = has_level j.sources (target_of j.event) in
    subst (g.S.TextSink.has_taken c.write_level_of.new.sink)
    ((λ i. ((taken ++ asks) ++ codes "; ") ++ has_level j.sources (c.target.ensures i))
    ∙ append_assoc (taken ++ asks) (codes "; ") target ∙ append_assoc taken asks (codes "; " ++ target))
    (c.write_level_of.ensures _ (c.put.ensures _ (c.write_kick.ensures taken had)))
