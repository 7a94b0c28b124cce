-- What an example unfolds to compute.
use Rattle.std.specs.Prelude.{⊤}
use Rattle.mx_levels.specs.Level.{read_level, user_level, required_level, ban_level, kick_level, invite_level}
use Rattle.mx_auth.specs.StateView.{is_joined, is_invited_or_joined, is_knocking, is_banned, join_rule_in}
use Rattle.mx_auth.specs.Rules.{create_lines, join_lines, invite_lines, leave_lines, ban_lines, knock_lines, member_lines, third_party_invite_lines, power_lines, change_lines, other_lines, rules, auth_lines, auth_rules, is_kept_out, is_user_levels, has_sound_users, alters_above, some_above, some_other_user, is_selected}

unfoldable pub rules_on_examples : ⊤
unfolding read_level user_level required_level ban_level kick_level invite_level is_joined is_invited_or_joined is_knocking is_banned join_rule_in create_lines join_lines invite_lines leave_lines ban_lines knock_lines member_lines third_party_invite_lines power_lines change_lines other_lines rules auth_lines auth_rules is_kept_out is_user_levels has_sound_users alters_above some_above some_other_user is_selected
rules_on_examples = tt
