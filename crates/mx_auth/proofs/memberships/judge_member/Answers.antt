use Rattle.std.proofs.Common.{sym, ap, ◌∙◌, rules}
use Rattle.std.specs.Prelude.{Some}
use Rattle.mx_auth.proofs.LineLemmas.{member_lines-join, member_lines-invite, member_lines-leave, member_lines-ban, member_lines-knock}
use Rattle.mx_auth.proofs.memberships.judge_member.Goals as goal

pub returns-in-Some-join : goal.returns-in-Some-join
returns-in-Some-join g c = c.judge_join.ensures ∙ sym (member_lines-join _ _ _ (search rules) (sym c.in-Some-join.ensures ∙ ap Some c.in-Some-join.is-join))

pub returns-in-Some-invite : goal.returns-in-Some-invite
returns-in-Some-invite g c = c.judge_invite.ensures ∙ sym (member_lines-invite _ _ _ (search rules) (sym c.in-Some-invite.ensures ∙ ap Some c.in-Some-invite.is-invite))

pub returns-in-Some-leave : goal.returns-in-Some-leave
returns-in-Some-leave g c = c.judge_leave.ensures ∙ sym (member_lines-leave _ _ _ (search rules) (sym c.in-Some-leave.ensures ∙ ap Some c.in-Some-leave.is-leave))

pub returns-in-Some-ban : goal.returns-in-Some-ban
returns-in-Some-ban g c = c.judge_ban.ensures ∙ sym (member_lines-ban _ _ _ (search rules) (sym c.in-Some-ban.ensures ∙ ap Some c.in-Some-ban.is-ban))

pub returns-in-Some-knock : goal.returns-in-Some-knock
returns-in-Some-knock g c = c.judge_knock.ensures ∙ sym (member_lines-knock _ _ _ (search rules) (search rules) (sym c.in-Some-knock.ensures ∙ ap Some c.in-Some-knock.is-knock))
