use Rattle.std.proofs.Common.{rules, ◌∙◌}
use Rattle.mx_levels.proofs.ContentLemmas.{level_at-content}
use Rattle.mx_levels.proofs.power_levels.given_level.Goals as goal

pub returns-in-Some : goal.returns-in-Some
returns-in-Some c =
    let level = c.level_at.ensures ∙ level_at-content c.args.key.now _ c.in-Some.power.now c.content.ensures c.requires in
    search rules
