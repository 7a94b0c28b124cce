use Rattle.std.proofs.Common.{rules, ◌∙◌, ap}
use Rattle.mx_pdu.specs.Event.{content_of}
use Rattle.mx_auth.specs.Rules.{first_line, power_lines}
use Rattle.mx_auth.proofs.ContentLemmas.{has_sound_users-content, change_lines-content}
use Rattle.mx_auth.proofs.power_levels.judge_power_levels.Goals as goal

pub returns-then-not-has_sound_users : goal.returns-then-not-has_sound_users
unfolding power_lines
returns-then-not-has_sound_users g c =
    let sound = c.has_sound_users.ensures ∙ has_sound_users-content _ (content_of c.args.event.now) c.content-content.ensures in
    search rules

pub returns-in_default : goal.returns-in_default
unfolding power_lines
returns-in_default g c =
    let sound = c.has_sound_users.ensures ∙ has_sound_users-content _ (content_of c.args.event.now) c.content-content.ensures in
    search rules

pub returns : goal.returns
unfolding power_lines
returns g c =
    let sound = c.has_sound_users.ensures ∙ has_sound_users-content _ (content_of c.args.event.now) c.content-content.ensures in
    let lines = c.judge_change.ensures ∙ ap first_line (change_lines-content _ _ _ _ (content_of c.in-Some.power.now) (content_of c.args.event.now) c.content.ensures c.content-content.ensures) in
    search rules
