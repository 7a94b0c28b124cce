use Rattle.std.proofs.Common.{◌||◌, ◌+◌, drop, sym, ap, ◌∙◌}
use Rattle.std.specs.List.{list_any}
use Rattle.mx_access.proofs.RedactionLemmas.{takes_effect, any-named, any-next, any-end}
use Rattle.mx_access.proofs.redactions.is_redacted.Goals as goal

pub loop-redaction-preserved : goal.loop-redaction-preserved
loop-redaction-preserved c =
    ap (λ b. b || list_any (takes_effect c.args.timeline.now.kept c.args.number) (drop (c.loop-redaction.redaction-index + 1) c.redactions_naming-redactions.result.now)) (sym (sym c.takes_effect.ensures ∙ c.if-takes_effect.false))
    ∙ sym (any-next (takes_effect c.args.timeline.now.kept c.args.number) c.redactions_naming-redactions.result.now c.loop-redaction.redaction-index c.redaction-item.result c.loop-redaction-test.true c.redaction-item.is)
    ∙ c.loop-redaction.invariant

pub returns-then-takes_effect : goal.returns-then-takes_effect
returns-then-takes_effect c =
    sym (ap (λ b. b || list_any (takes_effect c.args.timeline.now.kept c.args.number) (drop (c.loop-redaction.redaction-index + 1) c.redactions_naming-redactions.result.now)) (sym c.takes_effect.ensures ∙ c.if-takes_effect.true))
    ∙ sym (any-next (takes_effect c.args.timeline.now.kept c.args.number) c.redactions_naming-redactions.result.now c.loop-redaction.redaction-index c.redaction-item.result c.loop-redaction-test.true c.redaction-item.is)
    ∙ c.loop-redaction.invariant ∙ any-named c.args.timeline.now.kept c.args.number _ (ap (λ r. r.id) c.row.ensures) c.redactions_naming-redactions.result.now c.redactions_naming-redactions.ensures.named

pub returns : goal.returns
returns c =
    sym (any-end (takes_effect c.args.timeline.now.kept c.args.number) c.redactions_naming-redactions.result.now c.loop-redaction.redaction-index c.loop-redaction-test.false)
    ∙ c.loop-redaction.invariant ∙ any-named c.args.timeline.now.kept c.args.number _ (ap (λ r. r.id) c.row.ensures) c.redactions_naming-redactions.result.now c.redactions_naming-redactions.ensures.named
