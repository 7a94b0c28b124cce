use Rattle.std.proofs.Common.{rules, ◌∙◌}
use Rattle.mx_levels.proofs.ContentLemmas.{entry_at-content}
use Rattle.mx_levels.proofs.power_levels.entry_level.Goals as goal

pub returns : goal.returns
returns c =
    let level = c.entry_at.ensures ∙ entry_at-content c.args.map.now _ c.in_ok-power.field-0.now c.content.ensures c.requires c.args.key.now in
    search rules
