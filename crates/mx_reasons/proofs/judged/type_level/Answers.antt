use Rattle.std.proofs.Common.{codes, refl, ◌∙◌}
use Rattle.mx_levels.proofs.ContentLemmas.{entry_at-content}
use Rattle.mx_reasons.proofs.judged.type_level.Goals as goal

pub returns : goal.returns
returns c = c.entry_at.ensures ∙ entry_at-content (codes "events") _ c.args.power.now c.content.ensures refl c.args.kind.now
